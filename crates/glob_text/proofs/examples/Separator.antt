-- Examples of `literal_separator`: the paths that a glob matches, and paths that it does not. Each row computes.
use Rattle.std.specs.Prelude.{[], ◌∷◌, refl}
use Rattle.glob_text.proofs.examples.Unfoldings.{glob_on_literals}
use Rattle.glob_syntax.proofs.examples.Words.{AreTrue, separated}
use Rattle.glob_text.proofs.examples.Words.{matches_each, matches_none}

matches : AreTrue (
    matches_each separated "**/*" ("" ∷ "foo/" ∷ [])  -- prefix and star separated
    ∷ matches_each separated "**/.*" ("foo/.." ∷ [])  -- prefix and dot separated
    ∷ matches_each separated "**/*.py[cod]" ("src/module.pyc" ∷ [])  -- prefix star and class separated
    ∷ matches_none separated "**/*.py[cod]" ("src/module.pyi" ∷ [])
    ∷ matches_each separated "**/[!/]" ("foo/a" ∷ [])  -- negated slash separated
    ∷ matches_each separated "**/[.-0]" ("/" ∷ [])  -- range matches a slash
    ∷ matches_none separated "abc?def" ("abc/def" ∷ [])  -- question mark matches no slash
    ∷ matches_none separated "*.c" ("mozilla-sha1/sha1.c" ∷ [])  -- star matches no slash
    ∷ matches_none separated "some/*/needle.txt" ("some/one/two/needle.txt" ∷ [])  -- one component separated
    ∷ matches_each separated "**/[!a]" ("/" ∷ [])  -- prefix and negated class
    ∷ matches_each separated "abc*def" ("abcdef" ∷ "abcxdef" ∷ [])  -- star before a slash
    ∷ matches_none separated "abc*def" ("abc/def" ∷ [])
    ∷ matches_each separated "abc[/]def" ("abc/def" ∷ [])  -- slash in a class
    ∷ matches_each separated "*.c" ("a.c" ∷ [])  -- star as one component
    ∷ matches_none separated "*.c" ("x/a.c" ∷ [])
    ∷ matches_each separated "{**}" ("a" ∷ [])  -- run as a branch separated
    ∷ matches_none separated "{**}" ("a/b" ∷ [])
    ∷ matches_each separated "src/**" ("src/a/b" ∷ "src/" ∷ [])  -- suffix separated
    ∷ matches_none separated "src/**" ("src" ∷ [])
    ∷ matches_each separated "**" ("" ∷ "a" ∷ "a/b" ∷ "/" ∷ [])  -- run alone separated
    ∷ matches_each separated "**/.venv*" ("src/.venv-new" ∷ [])  -- hidden environments
    ∷ matches_none separated "**/.venv*" ("src/module.pyc" ∷ [])
    ∷ matches_each separated "**/*.py[cod]" ("src/module.pyc" ∷ "src/nested/module.pyc" ∷ [])  -- compiled modules
    ∷ matches_none separated "**/*.py[cod]" ("src/.venv-new" ∷ [])
    ∷ matches_each separated "src/*" ("src/module.pyc" ∷ "src/.venv-new" ∷ [])  -- one component of a folder
    ∷ matches_none separated "src/*" ("src/nested/module.pyc" ∷ [])
    ∷ [])
unfolding glob_on_literals
matches = refl
