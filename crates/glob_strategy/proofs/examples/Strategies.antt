-- Examples of globs with the strategies for them. Each row computes.
use Rattle.std.specs.Prelude.{[], ◌∷◌, Some, codes, refl}
use Rattle.glob_path.specs.Key as path_key
use Rattle.glob_strategy.specs.Strategies.{Excluded, Key, RequiredExtension, BasenameRegex, Regex}
use Rattle.glob_strategy.proofs.examples.Words.{globs_on_literals, glob, insensitive, separated, strategy}
use Rattle.glob_syntax.proofs.examples.Words.{AreEqual}

strategy_rows : AreEqual (
    (strategy (glob "a"), Some (Key (path_key.Literal (codes "a"))))  -- whole path
    ∷ (strategy (glob "src/lib.rs"), Some (Key (path_key.Literal (codes "src/lib.rs"))))  -- path of components
    ∷ (strategy (glob "a\\*"), Some (Key (path_key.Literal (codes "a*"))))  -- escaped star
    ∷ (strategy (glob "é"), Some (Key (path_key.Literal (195 ∷ 169 ∷ []))))  -- character of two bytes
    ∷ (strategy (glob "**/a"), Some (Key (path_key.BasenameLiteral (codes "a"))))  -- name after prefix
    ∷ (strategy (glob "**/..."), Some (Key (path_key.BasenameLiteral (codes "..."))))  -- dots and more after prefix
    ∷ (strategy (glob "**/a/b"), Some (Key (path_key.ComponentSuffix (codes "a/b"))))  -- components after prefix
    ∷ (strategy (glob "**//a"), Some (Key (path_key.ComponentSuffix (codes "/a"))))  -- slash after prefix
    ∷ (strategy (glob "**/*.a"), Some (Key (path_key.Extension (codes ".a"))))  -- extension after prefix
    ∷ (strategy (separated "**/*.a"), Some (Key (path_key.Extension (codes ".a"))))  -- extension after prefix separated
    ∷ (strategy (glob "*.a"), Some (Key (path_key.Extension (codes ".a"))))  -- extension
    ∷ (strategy (glob "*."), Some (Key (path_key.Extension (codes "."))))  -- dot alone
    ∷ (strategy (separated "*.rs"), Some (RequiredExtension (codes ".rs")))  -- extension separated
    ∷ (strategy (glob "**/*.tar.gz"), Some (Key (path_key.Suffix (codes ".tar.gz"))))  -- two dots after prefix
    ∷ (strategy (separated "**/*.tar.gz"), Some (RequiredExtension (codes ".gz")))  -- two dots after prefix separated
    ∷ (strategy (glob "*.tar.gz"), Some (Key (path_key.Suffix (codes ".tar.gz"))))  -- two dots
    ∷ (strategy (glob "*"), Some (Key (path_key.Suffix [])))  -- star
    ∷ (strategy (glob "*a"), Some (Key (path_key.Suffix (codes "a"))))  -- star and letter
    ∷ (strategy (glob "*/a"), Some (Key (path_key.Suffix (codes "/a"))))  -- star and slash
    ∷ (strategy (glob "**/*"), Some (Key (path_key.Suffix [])))  -- star after prefix
    ∷ (strategy (glob "**/*a"), Some (Key (path_key.Suffix (codes "a"))))  -- star and letter after prefix
    ∷ (strategy (glob "**/**/*a"), Some (Key (path_key.Suffix (codes "a"))))  -- star and letter after two prefixes
    ∷ (strategy (glob "b/*.a"), Some (RequiredExtension (codes ".a")))  -- extension after component
    ∷ (strategy (glob "{a,b}.c"), Some (RequiredExtension (codes ".c")))  -- extension after group
    ∷ (strategy (glob "foo/?."), Some (RequiredExtension (codes ".")))  -- dot after any
    ∷ (strategy (glob "?/.."), Some (RequiredExtension (codes ".")))  -- dots after slash
    ∷ (strategy (glob "?.d/conf"), Some Regex)  -- slash after dot
    ∷ (strategy (glob "a.b*"), Some (Key (path_key.Prefix (codes "a.b"))))  -- star after dot
    ∷ (strategy (glob "a/*"), Some (Key (path_key.Prefix (codes "a/"))))  -- star after slash
    ∷ (strategy (glob "a/**"), Some (Key (path_key.Prefix (codes "a/"))))  -- suffix after component
    ∷ (strategy (separated "a/**"), Some (Key (path_key.Prefix (codes "a/"))))  -- suffix after component separated
    ∷ (strategy (glob "/**"), Some (Key (path_key.Prefix (codes "/"))))  -- suffix alone
    ∷ (strategy (glob "a/**/**"), Some (Key (path_key.Prefix (codes "a/"))))  -- two suffixes
    ∷ (strategy (glob "**/[ab]"), Some BasenameRegex)  -- class after prefix
    ∷ (strategy (glob "**/[.-0]"), Some Regex)  -- class with slash after prefix
    ∷ (strategy (glob "**/[!a]"), Some Regex)  -- negated class after prefix
    ∷ (strategy (insensitive "**/A"), Some BasenameRegex)  -- insensitive after prefix
    ∷ (strategy (insensitive "a"), Some Regex)  -- insensitive name
    ∷ (strategy (insensitive "*.a"), Some Regex)  -- insensitive extension
    ∷ (strategy (separated "*"), Some Regex)  -- star separated
    ∷ (strategy (separated "*a"), Some Regex)  -- letter after star separated
    ∷ (strategy (separated "a/*"), Some Regex)  -- star after slash separated
    ∷ (strategy (separated "**/*"), Some BasenameRegex)  -- star after prefix separated
    ∷ (strategy (glob "**/a*"), Some Regex)  -- letter and star after prefix
    ∷ (strategy (glob "**/a/**"), Some Regex)  -- suffix after prefix
    ∷ (strategy (insensitive "a*"), Some Regex)  -- letter and star insensitive
    ∷ (strategy (insensitive "a/**"), Some Regex)  -- suffix insensitive
    ∷ (strategy (insensitive "**"), Some Regex)  -- prefix alone insensitive
    ∷ (strategy (glob "**/a*x"), Some Regex)  -- star inside
    ∷ (strategy (separated "**/a*x"), Some BasenameRegex)  -- star inside separated
    ∷ (strategy (glob "*?"), Some Regex)  -- star and any
    ∷ (strategy (glob "**"), Some (Key (path_key.Prefix [])))  -- prefix alone
    ∷ (strategy (separated "**/"), Some (Key (path_key.Prefix [])))  -- prefix alone separated
    ∷ (strategy (glob ""), Some Regex)  -- no tokens
    ∷ (strategy (glob "{**/..}"), Some Regex)  -- dots in group
    ∷ (strategy (insensitive "**/.."), Some BasenameRegex)  -- dots insensitive
    ∷ (strategy (glob "**/.."), Some Excluded)  -- dots after prefix
    ∷ [])
unfolding globs_on_literals
strategy_rows = refl
