-- Paths below a folder, by the strategies for globs.
use Rattle.std.proofs.Common.{◌≡◌, ℕ, ◌<◌, arith, ◌⊎◌, inl, inr, true, true≢false, List, [], ◌∷◌, ◌++◌, IsTrue, refl, ap, sym, ◌∙◌, subst}
use Rattle.std.specs.Prelude.{◌↔◌}
use Rattle.std.proofs.Math.Logic.{⊎_elim}
use Rattle.std.proofs.lemmas.List.{append-nil, append_assoc}
use Rattle.bit_sets.specs.Texts.{AllBytes}
use Rattle.bit_sets.proofs.lemmas.Texts.{rest_bytes, both_bytes, front_bytes}
use Rattle.glob_syntax.specs.After.{MeanAfter}
use Rattle.glob_syntax.specs.TokenMatches.{slash}
use Rattle.glob_syntax.specs.TokensMatch.{tokens_match}
use Rattle.glob_path.specs.PathParts.{is_separator, last_component, component_extension}
use Rattle.glob_syntax.specs.declared.options.Options.{Options}
use Rattle.glob_syntax.specs.Token.{Tokens}
use Rattle.glob_path.specs.Below.{path_below, folder_start, BeginsWith}
use Rattle.glob_path.specs.Key.{KeyValue, KeyMatches, KeyMayMatchBelow, key_bytes}
use Rattle.glob_path.specs.Key as path_key
use Rattle.glob_strategy.specs.Excluded.{are_reported}
use Rattle.glob_strategy.specs.Below.{AreReportedBelow, StrategyIsSoundBelow, HasBytes}
use Rattle.glob_strategy.specs.StrategyMeaning.{StrategyIsSound}
use Rattle.glob_strategy.specs.Strategies.{StrategyValue, Excluded, Key, RequiredExtension, BasenameRegex, Regex, after_prefix, before_ending}
use Rattle.glob_strategy.proofs.lemmas.Components.{Lacks, lacks_back, last_component_at, split, IsExtension, extension_ends, extension_parts}
use Rattle.glob_strategy.proofs.lemmas.TokenMeaning.{extension_end}
use Rattle.glob_path.proofs.lemmas.LastPositions.{neither}

-- the folder with its `/`, and the rest
with_slash : (folder rest : List ℕ) → (folder ++ slash ∷ []) ++ rest ≡ path_below folder rest
with_slash folder rest = append_assoc folder (slash ∷ []) rest

name_below : (folder name : List ℕ) → Lacks is_separator name → last_component (path_below folder name) ≡ name
name_below folder name none = ap last_component (sym (with_slash folder name)) ∙ last_component_at (folder ++ slash ∷ []) name (inr (folder, refl)) none

no_slash_first : (rest : List ℕ) → Lacks is_separator (slash ∷ rest) → ⊥
no_slash_first rest h = true≢false (neither _ true h).1

-- an end without a `/` lies behind the `/` of the folder
record IsBehind (folder front key rest : List ℕ) : Type 0 where
  more : List ℕ
  rest_is : rest ≡ more ++ key
  front_is : front ≡ folder ++ slash ∷ more

behind : (folder front key rest : List ℕ) → folder ++ slash ∷ rest ≡ front ++ key → Lacks is_separator key → IsBehind folder front key rest
behind [] [] key rest cut none = absurd (no_slash_first rest (subst (Lacks is_separator) (sym cut) none))
behind [] (c ∷ front) key rest cut none =
    let first : slash ≡ c = cc in
    let others : rest ≡ front ++ key = cc in
    record { more = front; rest_is = others; front_is = ap (λ d. d ∷ front) (sym first) }
behind (c ∷ folder) [] key rest cut none = absurd (no_slash_first rest (lacks_back is_separator (c ∷ folder) (slash ∷ rest) (subst (Lacks is_separator) (sym cut) none)))
behind (c ∷ folder) (d ∷ front) key rest cut none =
    let first : c ≡ d = cc in
    let others : folder ++ slash ∷ rest ≡ front ++ key = cc in
    let b = behind folder front key rest others none in
    record { more = b.more; rest_is = b.rest_is; front_is = ap (λ l. d ∷ l) b.front_is ∙ ap (λ x. x ∷ folder ++ slash ∷ b.more) (sym first) }

extension_lacks : (b : List ℕ) → Lacks is_separator (component_extension b)
extension_lacks b = ⊎_elim {C = Lacks is_separator (component_extension b)}
    (λ none. subst (Lacks is_separator) (sym none) refl)
    (λ has. lacks_back is_separator has.before (component_extension b) (subst (Lacks is_separator) has.cut (split b).lacks))
    (extension_parts b)

-- of two lists that begin one list, one begins with the other
overlap : (x y u v : List ℕ) → x ++ u ≡ y ++ v → BeginsWith x y ⊎ BeginsWith y x
overlap x [] u v cut = inl (x, refl)
overlap [] (d ∷ y) u v cut = inr (d ∷ y, refl)
overlap (c ∷ x) (d ∷ y) u v cut =
    let first : c ≡ d = cc in
    let others : x ++ u ≡ y ++ v = cc in
    ⊎_elim {C = BeginsWith (c ∷ x) (d ∷ y) ⊎ BeginsWith (d ∷ y) (c ∷ x)}
    (λ (z, is). inl (z, (λ i. sym first i ∷ is i)))
    (λ (z, is). inr (z, (λ i. first i ∷ is i)))
    (overlap x y u v others)

-- what is known of a key, beside what it says of paths
abbrev pub IsKeyShaped : KeyValue → Type 0
IsKeyShaped (path_key.BasenameLiteral key) = Lacks is_separator key
IsKeyShaped (path_key.Extension key) = IsExtension key
IsKeyShaped key = Unit {0}

-- what is known of the tokens that a strategy fits, beside what it says of paths
abbrev pub IsShaped : Options → Tokens → StrategyValue → Type 0
IsShaped o ts (Key key) = IsKeyShaped key
IsShaped o ts BasenameRegex = (b : List ℕ) → IsTrue (tokens_match o (after_prefix ts) b) → Lacks is_separator b
IsShaped o ts strategy = Unit {0}

module _ (o : Options) (ts : Tokens) (folder : List ℕ) where
  pub key_tells_below : (key : KeyValue) → AllBytes (key_bytes key) → IsKeyShaped key → ((path : List ℕ) → IsTrue (are_reported o ts path) ↔ KeyMatches key path)
      → AreReportedBelow o ts folder ↔ KeyMayMatchBelow key folder
  key_tells_below (path_key.Literal key) has shape tells = (
    λ (rest, all, h). (rest, with_slash folder rest ∙ (tells (path_below folder rest)).0 h),
    λ (rest, is). let cut = sym (with_slash folder rest) ∙ is in
        (rest, (rest_bytes folder (slash ∷ rest) (subst AllBytes (sym cut) has)).1, (tells (path_below folder rest)).1 cut),
  )
  key_tells_below (path_key.BasenameLiteral key) has shape tells = (λ some. tt, λ t. (key, has, (tells (path_below folder key)).1 (name_below folder key shape)))
  key_tells_below (path_key.Extension key) has shape tells =
      (λ some. tt, λ t. (key, has, (tells (path_below folder key)).1 (extension_ends (path_below folder key) key shape (folder ++ slash ∷ [], sym (with_slash folder key)))))
  key_tells_below (path_key.ComponentSuffix key) has shape tells = (λ some. tt, λ t. (key, has, (tells (path_below folder key)).1 (inr (folder, refl))))
  key_tells_below (path_key.Suffix key) has shape tells = (λ some. tt, λ t. (key, has, (tells (path_below folder key)).1 (folder ++ slash ∷ [], with_slash folder key)))
  key_tells_below (path_key.Prefix key) has shape tells = (
    λ (rest, all, h). let (z, is) = (tells (path_below folder rest)).0 h in overlap key (folder_start folder) z rest (is ∙ sym (with_slash folder rest)),
    λ either. ⊎_elim {C = AreReportedBelow o ts folder}
        (λ (z, is). (z, rest_bytes (folder_start folder) z (subst AllBytes (sym is) has), (tells (path_below folder z)).1 ([], append-nil key ∙ sym is ∙ with_slash folder z)))
        (λ (z, is). ([], tt, (tells (path_below folder [])).1 (z, is)))
        either,
  )

  pub path_tells_below : ((path : List ℕ) → are_reported o ts path ≡ tokens_match o ts path) → AreReportedBelow o ts folder ↔ MeanAfter o ts (folder_start folder)
  path_tells_below tells = (
    λ (rest, all, h). (rest, all, subst (λ f. IsTrue (tokens_match o ts f)) (sym (with_slash folder rest)) (sym (tells (path_below folder rest)) ∙ h)),
    λ (rest, all, h). (rest, all, tells (path_below folder rest) ∙ subst (λ f. IsTrue (tokens_match o ts f)) (with_slash folder rest) h),
  )

module _ (o : Options) (ts : Tokens) (folder : List ℕ) (bytes : AllBytes folder) where
  pub sound_below : (strategy : StrategyValue) → HasBytes strategy → IsShaped o ts strategy → ((path : List ℕ) → StrategyIsSound strategy o ts path) → StrategyIsSoundBelow strategy o ts folder
  sound_below Excluded has shape tells = λ (rest, all, h). true≢false (sym h ∙ tells (path_below folder rest))
  sound_below (Key key) has shape tells = key_tells_below o ts folder key has shape tells
  sound_below (RequiredExtension key) has shape tells = (
    λ (rest, all, h).
        let path = path_below folder rest in
        let ext = (tells path).0 h in
        let (front, is) = extension_end path in
        let cut : path ≡ front ++ key = is ∙ ap (λ k. front ++ k) ext in
        let b = behind folder front key rest cut (subst (Lacks is_separator) ext (extension_lacks path)) in
        let front_all : AllBytes b.more = front_bytes b.more key (subst AllBytes b.rest_is all) in
        (b.more, front_all, subst (λ f. IsTrue (tokens_match o (before_ending ts) f)) (b.front_is ∙ sym (with_slash folder b.more)) (sym ((tells path).1 front (sym cut)) ∙ h)),
    λ (rest, all, h).
        let path = path_below folder (rest ++ key) in (
          rest ++ key,
          both_bytes rest key all has,
          (tells path).1 (path_below folder rest) (append_assoc folder (slash ∷ rest) key) ∙ subst (λ f. IsTrue (tokens_match o (before_ending ts) f)) (with_slash folder rest) h,
        ),
  )
  sound_below BasenameRegex has shape tells = (
    λ (rest, all, h).
        let path = path_below folder rest in
        let s = split path in
        (last_component path, rest_bytes s.front (last_component path) (subst AllBytes s.cut (both_bytes folder (slash ∷ rest) bytes (let small : slash < 256 = omega arith in small, all))), sym (tells path) ∙ h),
    λ (name, all, h). (name, all, tells (path_below folder name) ∙ ap (tokens_match o (after_prefix ts)) (name_below folder name (shape name h)) ∙ h),
  )
  sound_below Regex has shape tells = path_tells_below o ts folder tells
