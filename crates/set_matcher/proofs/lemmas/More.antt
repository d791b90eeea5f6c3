-- One more key: below which folders some path may find a key.
use Rattle.std.proofs.Common.{◌≡◌, ℕ, ◌⊎◌, inl, inr, List, [], ◌∷◌, ◌++◌, length, refl, ap, sym, subst, arith}
use Rattle.std.specs.Prelude.{◌≢◌, ◌↔◌, ⊤}
use Rattle.std.proofs.Math.Logic.{⊎_elim}
use Rattle.std.proofs.lemmas.List.{length-append}
use Rattle.std.proofs.lemmas.List.Elements.{Contains-append_left, Contains-push, Contains-push_cases}
use Rattle.glob_path.specs.Entries.{Entry, entry}
use Rattle.glob_path.specs.Below.{BeginsWith, folder_start}
use Rattle.glob_path.specs.Key.{KeyMayMatchBelow, KeyValue}
use Rattle.glob_path.specs.Key as path_key
use Rattle.set_matcher.specs.inner.KeysBelow.{BelowMore, HasKey, MatchesBelow, by_component, by_extension, by_end, by_path, by_prefix, by_shorter_beginning}
use Rattle.set_matcher.specs.inner.LiteralIndex.{KeyParts, after_separator, no_keys, with_path, with_component, with_components, with_extension, with_beginning, with_end, with_key}

pub key_added : (P : List ℕ → Type 0) (es : List Entry) (key : List ℕ) (i : ℕ) → HasKey P (es ++ entry key i ∷ []) ↔ (HasKey P es ⊎ P key)
key_added P es key i = (
  λ h. ⊎_elim {C = HasKey P es ⊎ P key} (λ old. inl (h.0, h.1, old, h.3)) (λ new. inr (subst P (sym (ap (λ (e : Entry). e.key) new)) h.3))
      (Contains-push_cases es (entry key i) (entry h.0 h.1) h.2),
  λ h. ⊎_elim {C = HasKey P (es ++ entry key i ∷ [])} (λ old. (old.0, old.1, Contains-append_left es (entry key i ∷ []) (entry old.0 old.1) old.2, old.3))
      (λ new. (key, i, Contains-push es (entry key i), new)) h,
)

some_added : (es : List Entry) (e : Entry) → (es ++ e ∷ []) ≢ []
some_added es e none = absurd (omega (arith, length-append es (e ∷ []), ap length none))

no_key : (P : List ℕ → Type 0) → HasKey P [] → ⊥
no_key P h = absurd (omega (arith, h.2.1))

nothing_below : (folder : List ℕ) → MatchesBelow no_keys folder → ⊥
nothing_below folder (by_component some) = some refl
nothing_below folder (by_extension some) = some refl
nothing_below folder (by_end some) = some refl
nothing_below folder (by_path h) = no_key (λ key. BeginsWith key (folder_start folder)) h
nothing_below folder (by_prefix h) = no_key (λ key. BeginsWith key (folder_start folder)) h
nothing_below folder (by_shorter_beginning h) = no_key (BeginsWith (folder_start folder)) h

pub nothing_below_if : (t : KeyParts) → t ≡ no_keys → (folder : List ℕ) → MatchesBelow t folder → ⊥
nothing_below_if t is folder m = nothing_below folder (subst (λ k. MatchesBelow k folder) is m)

path_more : (t : KeyParts) (key : List ℕ) (n : ℕ) → BelowMore t (with_path t key n) (λ folder. BeginsWith key (folder_start folder))
path_more t key n folder = (to, from)
  where
    added : HasKey (λ key. BeginsWith key (folder_start folder)) (t.paths ++ entry key n ∷ []) ↔ (HasKey (λ key. BeginsWith key (folder_start folder)) t.paths ⊎ BeginsWith key (folder_start folder))
    added = key_added (λ key. BeginsWith key (folder_start folder)) t.paths key n

    to : MatchesBelow (with_path t key n) folder → MatchesBelow t folder ⊎ BeginsWith key (folder_start folder)
    to (by_component h) = inl (by_component h)
    to (by_extension h) = inl (by_extension h)
    to (by_end h) = inl (by_end h)
    to (by_path h) = ⊎_elim {C = MatchesBelow t folder ⊎ BeginsWith key (folder_start folder)} (λ old. inl (by_path old)) (λ new. inr new) (added.0 h)
    to (by_prefix h) = inl (by_prefix h)
    to (by_shorter_beginning h) = inl (by_shorter_beginning h)

    from : MatchesBelow t folder ⊎ BeginsWith key (folder_start folder) → MatchesBelow (with_path t key n) folder
    from (inl (by_component h)) = by_component h
    from (inl (by_extension h)) = by_extension h
    from (inl (by_end h)) = by_end h
    from (inl (by_path h)) = by_path (added.1 (inl h))
    from (inl (by_prefix h)) = by_prefix h
    from (inl (by_shorter_beginning h)) = by_shorter_beginning h
    from (inr new) = by_path (added.1 (inr new))

beginning_more : (t : KeyParts) (key : List ℕ) (n : ℕ) → BelowMore t (with_beginning t key n) (λ folder. BeginsWith key (folder_start folder) ⊎ BeginsWith (folder_start folder) key)
beginning_more t key n folder = (to, from)
  where
    longer : HasKey (λ key. BeginsWith key (folder_start folder)) (t.prefixes ++ entry key n ∷ []) ↔ (HasKey (λ key. BeginsWith key (folder_start folder)) t.prefixes ⊎ BeginsWith key (folder_start folder))
    longer = key_added (λ key. BeginsWith key (folder_start folder)) t.prefixes key n

    shorter : HasKey (BeginsWith (folder_start folder)) (t.prefixes ++ entry key n ∷ []) ↔ (HasKey (BeginsWith (folder_start folder)) t.prefixes ⊎ BeginsWith (folder_start folder) key)
    shorter = key_added (BeginsWith (folder_start folder)) t.prefixes key n

    to : MatchesBelow (with_beginning t key n) folder → MatchesBelow t folder ⊎ (BeginsWith key (folder_start folder) ⊎ BeginsWith (folder_start folder) key)
    to (by_component h) = inl (by_component h)
    to (by_extension h) = inl (by_extension h)
    to (by_end h) = inl (by_end h)
    to (by_path h) = inl (by_path h)
    to (by_prefix h) =
        ⊎_elim {C = MatchesBelow t folder ⊎ (BeginsWith key (folder_start folder) ⊎ BeginsWith (folder_start folder) key)} (λ old. inl (by_prefix old)) (λ new. inr (inl new)) (longer.0 h)
    to (by_shorter_beginning h) =
        ⊎_elim {C = MatchesBelow t folder ⊎ (BeginsWith key (folder_start folder) ⊎ BeginsWith (folder_start folder) key)} (λ old. inl (by_shorter_beginning old)) (λ new. inr (inr new)) (shorter.0 h)

    from : MatchesBelow t folder ⊎ (BeginsWith key (folder_start folder) ⊎ BeginsWith (folder_start folder) key) → MatchesBelow (with_beginning t key n) folder
    from (inl (by_component h)) = by_component h
    from (inl (by_extension h)) = by_extension h
    from (inl (by_end h)) = by_end h
    from (inl (by_path h)) = by_path h
    from (inl (by_prefix h)) = by_prefix (longer.1 (inl h))
    from (inl (by_shorter_beginning h)) = by_shorter_beginning (shorter.1 (inl h))
    from (inr (inl new)) = by_prefix (longer.1 (inr new))
    from (inr (inr new)) = by_shorter_beginning (shorter.1 (inr new))

-- if some path below every folder may find a key
always_more : (t new : KeyParts) → ((folder : List ℕ) → MatchesBelow new folder) → BelowMore t new (λ folder. ⊤)
always_more t new always folder = (λ h. inr tt, λ h. always folder)

-- ---- keys that are old ones and one more

key_more : (t : KeyParts) (key : KeyValue) (n : ℕ) → BelowMore t (with_key t key n) (KeyMayMatchBelow key)
key_more t (path_key.Literal bytes) n = path_more t bytes n
key_more t (path_key.BasenameLiteral bytes) n = always_more t (with_component t bytes n) (λ folder. by_component (some_added t.components (entry bytes n)))
key_more t (path_key.Extension bytes) n = always_more t (with_extension t bytes n) (λ folder. by_extension (some_added t.extensions (entry bytes n)))
key_more t (path_key.ComponentSuffix bytes) n = always_more t (with_components t bytes n) (λ folder. by_end (some_added t.ends (entry (after_separator bytes) n)))
key_more t (path_key.Suffix bytes) n = always_more t (with_end t bytes n) (λ folder. by_end (some_added t.ends (entry bytes n)))
key_more t (path_key.Prefix bytes) n = beginning_more t bytes n

pub below_key : (old new : KeyParts) (key : KeyValue) (n : ℕ) → new ≡ with_key old key n → BelowMore old new (KeyMayMatchBelow key)
below_key old new key n is = subst (λ k. BelowMore old k (KeyMayMatchBelow key)) (sym is) (key_more old key n)
