-- Which keys a path below a folder may find, by the folders and the beginnings.
use Rattle.std.proofs.Common.{◌≡◌, ℕ, ◌⊎◌, inl, inr, Bool, List, [], ◌∷◌, ◌++◌, length, IsTrue, refl, ap, sym, subst, ◌∙◌, append_assoc, arith}
use Rattle.std.specs.Prelude.{◌≢◌, ◌↔◌, Contains}
use Rattle.std.proofs.Math.Logic.{⊎_elim}
use Rattle.glob_path.specs.Entries.{Entry, entry}
use Rattle.glob_path.specs.declared.trie.Anchor.{Anchor}
use Rattle.glob_path.specs.declared.trie.Anchor.TheVariants.{Start}
use Rattle.glob_path.specs.Texts.{Texts, found}
use Rattle.glob_path.proofs.lemmas.Laws.{finds_exactly}
use Rattle.glob_path.specs.Below.{BeginsWith, folder_start}
use Rattle.set_matcher.specs.inner.KeysBelow.{HasKey, MatchesBelow, by_component, by_extension, by_end, by_path, by_prefix, by_shorter_beginning}
use Rattle.set_matcher.specs.inner.LiteralIndex.{KeyParts, texts_at}
use Rattle.set_matcher.specs.inner.Folders.{AreFolders, SomeBelow}
use Rattle.set_matcher.specs.inner.Parts.{HasOthers}
use Rattle.set_matcher.proofs.lemmas.Indexes.{some_index, index_in}

-- a beginning of a folder and a `/` is that text, or a beginning of the folder
all_or_front : (key rest folder : List ℕ) → key ++ rest ≡ folder_start folder → (key ≡ folder_start folder) ⊎ ((more : List ℕ) × (key ++ more ≡ folder))
all_or_front [] rest folder e = inr (folder, refl)
all_or_front (x ∷ []) rest [] e = inl cc
all_or_front (x ∷ y ∷ key) rest [] e = absurd (omega (arith, ap length e))
all_or_front (x ∷ key) rest (z ∷ folder) e =
    ⊎_elim {C = (x ∷ key ≡ folder_start (z ∷ folder)) ⊎ ((more : List ℕ) × (x ∷ (key ++ more) ≡ z ∷ folder))}
    (λ whole. inl cc) (λ part. let is = part.1 in inr (part.0, cc)) (all_or_front key rest folder cc)

-- the keys that the folder begins with are found
shorter_found : (es : List Entry) (folder : List ℕ) → HasKey (BeginsWith folder) es → found (texts_at Start es) folder ≢ []
shorter_found es folder h = index_in (found (texts_at Start es) folder) h.1 ((finds_exactly (texts_at Start es) folder h.1).1 (h.0, h.2, h.3))

found_shorter : (es : List Entry) (folder : List ℕ) → found (texts_at Start es) folder ≢ [] → HasKey (BeginsWith (folder_start folder)) es
found_shorter es folder some =
    let one = some_index (found (texts_at Start es) folder) some in
    let is = (finds_exactly (texts_at Start es) folder one.0).0 one.1 in
    (is.0, one.0, is.1, (is.2.0 ++ 47 ∷ [], sym (append_assoc is.0 is.2.0 (47 ∷ [])) ∙ ap folder_start is.2.1))

nothing_after : (xs : List ℕ) → xs ++ [] ≡ xs
nothing_after [] = refl
nothing_after (x ∷ xs) = ap (λ y. x ∷ y) (nothing_after xs)

-- where there are keys of other kinds
pub by_others : (k : KeyParts) (folder : List ℕ) → HasOthers k.components k.extensions k.ends → MatchesBelow k folder
by_others k folder (inl some) = by_component some
by_others k folder (inr (inl some)) = by_extension some
by_others k folder (inr (inr some)) = by_end some

-- a folder that is known
pub by_folder : (k : KeyParts) (folders : List (List ℕ)) (folder : List ℕ) → AreFolders folders k.paths k.prefixes → SomeBelow folders folder → MatchesBelow k folder
by_folder k folders folder h has = ⊎_elim {C = MatchesBelow k folder} (λ p. by_path p) (λ b. by_prefix b) ((h.tells folder).0 has)

-- a folder that is not known, where there are keys of no other kinds
pub by_walk : (k : KeyParts) (folders : List (List ℕ)) (t : Texts) (folder : List ℕ) (b : Bool) → AreFolders folders k.paths k.prefixes → t ≡ texts_at Start k.prefixes
    → (HasOthers k.components k.extensions k.ends → ⊥) → (SomeBelow folders folder → ⊥)
    → (IsTrue b ↔ (found t folder ≢ [])) → IsTrue b ↔ MatchesBelow k folder
by_walk k folders t folder b h at no_others none tells = (
  λ yes. by_shorter_beginning (found_shorter k.prefixes folder (subst (λ t. found t folder ≢ []) at (tells.0 yes))),
  λ m. tells.1 (subst (λ t. found t folder ≢ []) (sym at) (found_one m)),
)
  where
    is_found : (key rest : List ℕ) (i : ℕ) → Contains k.prefixes (entry key i) → (key ≡ folder_start folder) ⊎ ((more : List ℕ) × (key ++ more ≡ folder)) → found (texts_at Start k.prefixes) folder ≢ []
    is_found key rest i at (inl whole) = absurd (none ((h.tells folder).1 (inr (key, i, at, ([], nothing_after (folder_start folder) ∙ sym whole)))))
    is_found key rest i at (inr part) = shorter_found k.prefixes folder (key, i, at, part)

    found_one : MatchesBelow k folder → found (texts_at Start k.prefixes) folder ≢ []
    found_one (by_component some) = absurd (no_others (inl some))
    found_one (by_extension some) = absurd (no_others (inr (inl some)))
    found_one (by_end some) = absurd (no_others (inr (inr some)))
    found_one (by_path p) = absurd (none ((h.tells folder).1 (inl p)))
    found_one (by_prefix p) = absurd (none ((h.tells folder).1 (inr p)))
    found_one (by_shorter_beginning p) = is_found p.0 p.3.0 p.1 p.2 (all_or_front p.0 p.3.0 folder p.3.1)

pub at_anchor : (t : Texts) (anchor : Anchor) → t.anchor ≡ anchor → t ≡ texts_at anchor t.entries
at_anchor t anchor e = λ i. record { anchor = e i; entries = t.entries }
