-- The text of a flat list of tokens, while it is written from the first token to the last.
use Rattle.std.specs.Prelude.{◌≡◌, ℕ, Bool, true, false, not, ◌&&◌, ◌||◌, ◌<◌, List, [], ◌∷◌, ◌++◌, map, take, length, slice_index, codes}
use Rattle.glob_syntax.specs.declared.options.Options.{Options}
use Rattle.glob_syntax.specs.Token.{Branches}
use Rattle.glob_syntax.specs.Reading.{first_branch}
use Rattle.glob_syntax.specs.FlatTokens.{Flat, simple, opening, comma, closing, all_levels, levels_of, later_branches, Nests}
use Rattle.glob_syntax.specs.Blank.{is_blank, any_kept}
use Rattle.glob_text.specs.RegexText.{group_text, others_text, token_text, tokens_text, kept_texts}
use Rattle.glob_text.specs.declared.regex_text.OpenGroup.{OpenGroup}

-- What of a group is still to be written, by the texts of the branches that are left: the first part says whether no
-- branch has been written yet.
abbrev pub rest_text : Bool → List (List ℕ) → List ℕ
rest_text true ts = group_text ts
rest_text false ts = others_text ts ++ codes ")"

-- the text before a branch: the first that is written, or another
abbrev pub opener : Bool → List ℕ
opener true = codes "(?:"
opener false = codes "|"

-- the text after the last branch, if any was written
abbrev pub closer : Bool → List ℕ
closer true = []
closer false = codes ")"

-- An open group: the text before its current branch, and whether no branch of the group has been written. It also says whether
-- the tokens before the group keep the branch around it.
pub record Place : Type 0 where
  pub before : List ℕ
  pub first : Bool
  pub outer_kept : Bool

abbrev pub place : List ℕ → Bool → Bool → Place
place before first outer_kept = record {
  before = before;
  first = first;
  outer_kept = outer_kept;
}

-- the text after a branch that is kept or not
abbrev pub chosen : Bool → List ℕ → List ℕ → List ℕ
chosen true text before = text
chosen false text before = before

-- The whole text, where these levels still follow this text, inside these groups, the innermost first. `kept` says that the
-- branch is kept by its written tokens.
abbrev pub finish : Options → List ℕ → Bool → List Place → List Branches → List ℕ
finish o text kept [] [] = text
finish o text kept [] (bs ∷ more) = text ++ tokens_text o (first_branch bs)
finish o text kept (p ∷ ps) [] = text
finish o text kept (p ∷ ps) (bs ∷ more) =
    let k : Bool = o.empty_alternates || (kept || not (is_blank (first_branch bs))) in
    finish o (chosen k (text ++ tokens_text o (first_branch bs)) p.before ++ rest_text (p.first && not k) (kept_texts o (later_branches bs)))
    (p.outer_kept || (not (p.first && not k) || any_kept o (later_branches bs))) ps more

-- the groups as the program has them, by positions in the text
abbrev pub place_of : List ℕ → OpenGroup → Place
place_of text g = place (take g.len text) g.first g.outer_kept

abbrev pub places_of : List ℕ → List OpenGroup → List Place
places_of text gs = map (place_of text) gs

-- each position is below n and below the positions of the groups inside it, and the byte there is an ASCII character
abbrev pub AreCuts : List ℕ → ℕ → List OpenGroup → Type 0
AreCuts text n [] = Unit {0}
AreCuts text n (g ∷ gs) = (g.len < n) × (slice_index text g.len < 128) × AreCuts text g.len gs

abbrev pub simple_text : Options → Flat → List ℕ
simple_text o (simple t) = token_text o t
simple_text o opening = []
simple_text o comma = []
simple_text o closing = []

-- The text so far, with the levels of the tokens that are left, is the whole text.
pub record Writes (o : Options) (whole text : List ℕ) (kept : Bool) (gs : List OpenGroup) (ts : List Flat) : Type 0 where
  pub same : finish o text kept (places_of text gs) (all_levels (levels_of ts)) ≡ whole
  pub cuts : AreCuts text (length text) gs
  pub nested : Nests (length gs) ts 0
