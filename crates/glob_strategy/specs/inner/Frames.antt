-- The state of the builder on its way from the last token to the first.
use Rattle.std.specs.Prelude.{◌≡◌, ℕ, Bool, true, false, not, ◌&&◌, ◌||◌, ◌+◌, ◌<◌, ◌≤◌, List, [], ◌∷◌, length, map, reverse}
use Rattle.glob_syntax.specs.declared.options.Options.{Options}
use Rattle.glob_syntax.specs.Token.{Branches, none, branch}
use Rattle.glob_syntax.specs.FlatTokens.{Flat, simple, opening, comma, closing}
use Rattle.glob_syntax.specs.inner.Weight.{token_weight, branches_weight}
use Rattle.glob_syntax.specs.Blank.{is_blank, are_blank}
use Rattle.byte_nfa.specs.Steps.{State, NfaValue}
use Rattle.bit_sets.specs.Numbers.{AreBelow}
use Rattle.byte_nfa.specs.Building.{Agrees, Grows}
use Rattle.byte_nfa.specs.Runs.{size}
use Rattle.glob_strategy.specs.inner.TokenStates.{IsBuilt, AreBuilt}
use Rattle.glob_strategy.specs.inner.Building.{BuildsToken}
use Rattle.glob_strategy.specs.declared.states.Frame as held

-- An open group, or the whole glob. Its current branch: where its tokens so far begin, and whether they are blank. Where the
-- group's branches lead. Its later branches, which are done: where the kept branches begin, in the order of the text, and whether
-- all are blank.
pub record Frame : Type 0 where
  pub start : ℕ
  pub blank : Bool
  pub exit : ℕ
  pub starts : List ℕ
  pub rest_blank : Bool

-- these five as a value
abbrev pub frame : ℕ → Bool → ℕ → List ℕ → Bool → Frame
frame start blank exit starts rest_blank = record {
  start = start;
  blank = blank;
  exit = exit;
  starts = starts;
  rest_blank = rest_blank;
}

-- as the program keeps it, the last branch first
abbrev pub frame_of : held.Frame → Frame
frame_of f = frame f.start f.blank f.exit (reverse f.starts.items) f.rest_blank

-- the innermost first
abbrev pub frames_of : List held.Frame → List Frame
frames_of fs = map frame_of (reverse fs)

-- ---- steps

-- nothing yet
abbrev pub fresh : ℕ → Frame
fresh e = frame e true e [] true

-- another token, before the others
abbrev pub led : ℕ → Bool → Frame → Frame
led s b f = frame s (b && f.blank) f.exit f.starts f.rest_blank

-- the starts of kept branches, and before them that of another branch, if it is kept
abbrev pub with_start : Bool → ℕ → List ℕ → List ℕ
with_start true s ss = s ∷ ss
with_start false s ss = ss

-- the branch is done, and the branch before it begins
abbrev pub ended : Options → Frame → Frame
ended o f = frame f.exit true f.exit (with_start (o.empty_alternates || not f.blank) f.start f.starts) (f.blank && f.rest_blank)

-- the targets of a group: its kept branches, or its exit
abbrev pub targets_of : List ℕ → ℕ → List ℕ
targets_of [] e = e ∷ []
targets_of (s ∷ ss) e = s ∷ ss

-- ---- frames and levels

-- where the frame around these begins so far, or the exit of the whole
abbrev pub outer_start : List Frame → ℕ → ℕ
outer_start [] e = e
outer_start (f ∷ fs) e = f.start

-- the frames, the innermost first, are the frames of these levels; the whole leads to e
abbrev pub AreOpen : Options → List State → List Frame → List Branches → ℕ → Type 0
AreOpen o a [] [] e = Unit {0}
AreOpen o a [] (b ∷ more) e = ⊥
AreOpen o a (f ∷ fs) [] e = ⊥
AreOpen o a (f ∷ fs) (none ∷ more) e = ⊥
AreOpen o a (f ∷ fs) (branch ts bs ∷ more) e =
    IsBuilt o a f.start ts f.exit × AreBuilt o a f.starts bs f.exit × (f.exit ≡ outer_start fs e) × AreOpen o a fs more e

-- and they say which of these are blank
abbrev pub AreBlank : List Frame → List Branches → Type 0
AreBlank [] [] = Unit {0}
AreBlank [] (b ∷ more) = ⊥
AreBlank (f ∷ fs) [] = ⊥
AreBlank (f ∷ fs) (none ∷ more) = ⊥
AreBlank (f ∷ fs) (branch ts bs ∷ more) = (f.blank ≡ is_blank ts) × (f.rest_blank ≡ are_blank bs) × AreBlank fs more

-- the states that the frames name are there
abbrev pub AreWithin : ℕ → List Frame → Type 0
AreWithin n [] = Unit {0}
AreWithin n (f ∷ fs) = (f.start < n) × (f.exit < n) × AreBelow n f.starts × AreWithin n fs

-- the states that were added are those of these levels, in each list of states that agrees with them
abbrev pub BuildsLevels : Options → List Frame → List Branches → List State → List State → ℕ → Type 0
BuildsLevels o fs levels old new e = (a : List State) → Agrees a new (length old) (length new) → AreOpen o a fs levels e

-- the most states of the branches of all levels
abbrev pub levels_weight : Options → List Branches → ℕ
levels_weight o [] = 0
levels_weight o (bs ∷ more) = branches_weight o bs + levels_weight o more

-- the added states are the states of the levels of the tokens so far
pub record Stands (o : Options) (old new : NfaValue) (fs : List Frame) (levels : List Branches) (e : ℕ) : Type 0 where
  pub grows : Grows old new
  pub count : size new ≤ size old + levels_weight o levels
  pub within : AreWithin (size new) fs
  pub blank : AreBlank fs levels
  pub builds : BuildsLevels o fs levels old.states new.states e

-- ---- a token that is no brace or comma

-- the most states of such a token; for others it is 0, and does not matter
abbrev pub flat_weight : Options → Flat → ℕ
flat_weight o (simple t) = token_weight o t
flat_weight o opening = 0
flat_weight o comma = 0
flat_weight o closing = 0

-- the states that were added are those of such a token, and lead from s to e
abbrev pub BuildsFlat : Options → Flat → List State → List State → ℕ → ℕ → Type 0
BuildsFlat o (simple t) old new s e = BuildsToken o t old new s e
BuildsFlat o opening old new s e = ⊥
BuildsFlat o comma old new s e = ⊥
BuildsFlat o closing old new s e = ⊥
