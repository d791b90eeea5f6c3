-- The steps of the builder of states, token by token.
use Rattle.std.proofs.Common.{◌≡◌, ℕ, zero, suc, ◌+◌, ◌<◌, ◌≤◌, Bool, true, false, not, ◌||◌, inl, inr, List, [], ◌∷◌, ◌++◌, length, map, reverse, slice_index, IsTrue, IsFalse, arith, refl, ap, sym, ◌∙◌, subst}
use Rattle.std.specs.Prelude.{◌⊎◌}
use Rattle.std.proofs.Math.Logic.{⊎_elim}
use Rattle.std.proofs.lemmas.List.{reverse-append, length-map, length-reverse}
use Rattle.glob_syntax.specs.declared.options.Options.{Options}
use Rattle.glob_syntax.specs.Token.{Token, Group, Tokens, Branches, none, branch}
use Rattle.glob_syntax.specs.Reading.{Levels, in_level, open_level, next_branch, close_level, first_branch}
use Rattle.glob_syntax.specs.FlatTokens.{all_levels, Flat, simple, opening, comma, closing, level}
use Rattle.glob_syntax.specs.inner.Weight.{weight, token_weight, branches_weight}
use Rattle.glob_syntax.proofs.lemmas.FlatTokens.{IsSole}
use Rattle.glob_syntax.specs.Blank.{is_blank_token, is_kept, any_kept}
use Rattle.glob_syntax.proofs.lemmas.TokenLists.{IsNotBlank}
use Rattle.byte_nfa.specs.Steps.{State, union_state, state, NfaValue}
use Rattle.bit_sets.specs.Numbers.{AreBelow}
use Rattle.byte_nfa.specs.Building.{Pushes, Grows}
use Rattle.byte_nfa.specs.Runs.{size}
use Rattle.glob_strategy.specs.inner.TokenStates.{IsBuilt, IsBuiltToken, AreBuilt}
use Rattle.glob_strategy.specs.inner.Building.{Builds, BuildsToken}
use Rattle.glob_strategy.specs.inner.Frames.{Frame, frame_of, frames_of, fresh, led, with_start, ended, targets_of, AreOpen, AreBlank, AreWithin, levels_weight, Stands, flat_weight, BuildsFlat}
use Rattle.glob_strategy.specs.declared.states.Frame as kept
use Rattle.bit_sets.proofs.lemmas.Booleans.{or_first}
use Rattle.byte_nfa.proofs.lemmas.Growing.{agrees_old, agrees_higher, grows_then, grows_push}

-- ---- frames as the program keeps them

pub frames_push : (fs : List kept.Frame) (f : kept.Frame) → frames_of (fs ++ f ∷ []) ≡ frame_of f ∷ frames_of fs
frames_push fs f = ap (map frame_of) (reverse-append fs (f ∷ []))

-- ---- numbers of states that are there

below_more : (n m : ℕ) (starts : List ℕ) → AreBelow n starts → n ≤ m → AreBelow m starts
below_more n m starts h le = λ i lt. let old = h i lt in omega arith

within_more : (n m : ℕ) (fs : List Frame) → AreWithin n fs → n ≤ m → AreWithin m fs
within_more n m [] h le = h
within_more n m (f ∷ fs) (s, e, b, h) le = (omega arith, omega arith, below_more n m f.starts b le, within_more n m fs h le)

below_cons : (n s : ℕ) (ss : List ℕ) → s < n → AreBelow n ss → AreBelow n (s ∷ ss)
below_cons n s ss lt h = at
  where
    at : (i : ℕ) → i < length (s ∷ ss) → slice_index (s ∷ ss) i < n
    at zero w = lt
    at (suc j) w = h j (omega arith)

pub below_targets : (n : ℕ) (ss : List ℕ) (e : ℕ) → AreBelow n ss → e < n → AreBelow n (targets_of ss e)
below_targets n [] e h lt = below_cons n e [] lt (λ i w. absurd (omega arith))
below_targets n (s ∷ ss) e h lt = h

-- frames and levels are equally many
blank_depth : (fs : List Frame) (levels : List Branches) → AreBlank fs levels → length fs ≡ length levels
blank_depth [] [] h = refl
blank_depth [] (b ∷ more) h = absurd h
blank_depth (f ∷ fs) [] h = absurd h
blank_depth (f ∷ fs) (none ∷ more) h = absurd h
blank_depth (f ∷ fs) (branch ts bs ∷ more) (p, q, h) = let e = blank_depth fs more h in omega arith

-- ---- one list of states: one more token, a group that begins, a branch that is done, a whole group

open_led : (o : Options) (a : List State) (f : Frame) (fs : List Frame) (l : Levels) (t : Token) (s : ℕ) (b : Bool) (e : ℕ)
    → AreOpen o a (f ∷ fs) (all_levels l) e → IsBuiltToken o a s t f.start → AreOpen o a (led s b f ∷ fs) (all_levels (in_level (t ∷ []) l)) e
open_led o a f fs (none, more) t s b e h first = absurd h
open_led o a f fs (branch ts bs, more) t s b e (built, rest, same, outer) first = ((f.start, first, built), rest, same, outer)

open_fresh : (o : Options) (a : List State) (f : Frame) (fs : List Frame) (l : Levels) (e : ℕ)
    → AreOpen o a (f ∷ fs) (all_levels l) e → AreOpen o a (fresh f.start ∷ f ∷ fs) (all_levels (close_level l)) e
open_fresh o a f fs l e h = (refl, refl, refl, h)

built_ended : (o : Options) (a : List State) (s : ℕ) (ts : Tokens) (ss : List ℕ) (bs : Branches) (e : ℕ) (k : Bool)
    → k ≡ is_kept o ts → IsBuilt o a s ts e → AreBuilt o a ss bs e → AreBuilt o a (with_start k s ss) (branch ts bs) e
built_ended o a s ts ss bs e true is built rest = inl (sym is, (s, ss, refl, built, rest))
built_ended o a s ts ss bs e false is built rest = inr (sym is, rest)

open_ended : (o : Options) (a : List State) (f : Frame) (fs : List Frame) (l : Levels) (e : ℕ)
    → AreBlank (f ∷ fs) (all_levels l) → AreOpen o a (f ∷ fs) (all_levels l) e → AreOpen o a (ended o f ∷ fs) (all_levels (next_branch l)) e
open_ended o a f fs (none, more) e b h = absurd h
open_ended o a f fs (branch ts bs, more) e (blank, rest_blank, b) (built, rest, same, outer) =
    (refl, built_ended o a f.start ts f.starts bs f.exit (o.empty_alternates || not f.blank) (ap (λ q. o.empty_alternates || not q) blank) built rest, same, outer)

-- some branch is kept, and the group skips to these; or none is
kept_is : (o : Options) (a : List State) (ss : List ℕ) (bs : Branches) (e : ℕ) → AreBuilt o a ss bs e
    → (IsTrue (any_kept o bs) × (targets_of ss e ≡ ss)) ⊎ (IsFalse (any_kept o bs) × (ss ≡ []))
kept_is o a ss none e h = inr (refl, h)
kept_is o a ss (branch ts bs) e (inl (kept, (t, us, is, built, rest))) = inl (or_first (is_kept o ts) (any_kept o bs) kept, rw is refl)
kept_is o a ss (branch ts bs) e (inr (dropped, rest)) = ⊎_elim {C = (IsTrue (is_kept o ts || any_kept o bs) × (targets_of ss e ≡ ss)) ⊎ (IsFalse (is_kept o ts || any_kept o bs) × (ss ≡ []))}
    (λ (any, is). inl (rw dropped any, is))
    (λ (no_one, is). inr (rw dropped no_one, is))
    (kept_is o a ss bs e rest)

built_group : (o : Options) (a : List State) (s : ℕ) (ss : List ℕ) (bs : Branches) (e : ℕ)
    → AreBuilt o a ss bs e → state a s ≡ union_state (targets_of ss e) → IsBuiltToken o a s (Group bs) e
built_group o a s ss bs e h at = ⊎_elim {C = IsBuiltToken o a s (Group bs) e}
    (λ (any, is). (ss, at ∙ ap union_state is, inl (any, h)))
    (λ (no_one, is). (e ∷ [], at ∙ ap (λ l. union_state (targets_of l e)) is, inr (no_one, refl)))
    (kept_is o a ss bs e h)

open_group : (o : Options) (a : List State) (f g : Frame) (fs : List Frame) (l : Levels) (s : ℕ) (b : Bool) (e : ℕ)
    → AreOpen o a (f ∷ g ∷ fs) (all_levels (next_branch l)) e → state a s ≡ union_state (targets_of f.starts f.exit)
    → AreOpen o a (led s b g ∷ fs) (all_levels (open_level l)) e
open_group o a f g fs (bs, []) s b e (built, rest, same, outer) at = absurd outer
open_group o a f g fs (bs, none ∷ more) s b e (built, rest, same, outer) at = absurd outer
open_group o a f g fs (bs, branch ts us ∷ more) s b e (built, rest, same, outer) at =
    let whole : IsBuiltToken o a s (Group bs) g.start = subst (IsBuiltToken o a s (Group bs)) same (built_group o a s f.starts bs f.exit rest at) in
    open_led o a g fs (branch ts us, more) (Group bs) s b e outer whole

-- ---- blank branches

blank_led : (f : Frame) (fs : List Frame) (l : Levels) (t : Token) (s : ℕ) (b : Bool)
    → AreBlank (f ∷ fs) (all_levels l) → b ≡ is_blank_token t → AreBlank (led s b f ∷ fs) (all_levels (in_level (t ∷ []) l))
blank_led f fs (none, more) t s b h is = absurd h
blank_led f fs (branch ts bs, more) t s b (blank, rest, outer) is = (rw (is, blank) refl, rest, outer)

blank_ended : (o : Options) (f : Frame) (fs : List Frame) (l : Levels)
    → AreBlank (f ∷ fs) (all_levels l) → AreBlank (ended o f ∷ fs) (all_levels (next_branch l))
blank_ended o f fs (none, more) h = absurd h
blank_ended o f fs (branch ts bs, more) (blank, rest, outer) = (refl, rw (blank, rest) refl, outer)

blank_group : (f g : Frame) (fs : List Frame) (l : Levels) (s : ℕ)
    → AreBlank (f ∷ g ∷ fs) (all_levels (next_branch l)) → AreBlank (led s f.rest_blank g ∷ fs) (all_levels (open_level l))
blank_group f g fs (bs, []) s (blank, rest, outer) = absurd outer
blank_group f g fs (bs, none ∷ more) s (blank, rest, outer) = absurd outer
blank_group f g fs (bs, branch ts us ∷ more) s (blank, rest, outer) = blank_led g fs (branch ts us, more) (Group bs) s f.rest_blank outer rest

-- ---- how many states

weight_led : (o : Options) (f : Frame) (fs : List Frame) (l : Levels) (t : Token)
    → AreBlank (f ∷ fs) (all_levels l) → levels_weight o (all_levels (in_level (t ∷ []) l)) ≡ token_weight o t + levels_weight o (all_levels l)
weight_led o f fs (none, more) t h = absurd h
weight_led o f fs (branch ts bs, more) t h = omega arith

weight_group : (o : Options) (f g : Frame) (fs : List Frame) (l : Levels)
    → AreBlank (f ∷ g ∷ fs) (all_levels (next_branch l)) → levels_weight o (all_levels (open_level l)) ≡ 1 + levels_weight o (all_levels (next_branch l))
weight_group o f g fs (bs, []) (blank, rest, outer) = absurd outer
weight_group o f g fs (bs, none ∷ more) (blank, rest, outer) = absurd outer
weight_group o f g fs (bs, branch ts us ∷ more) (blank, rest, outer) = omega arith

-- ---- the steps

stands_token : (o : Options) (old mid new : NfaValue) (f : Frame) (fs : List Frame) (l : Levels) (t : Token) (s : ℕ) (b : Bool) (e : ℕ)
    → Stands o old mid (f ∷ fs) (all_levels l) e → b ≡ is_blank_token t → s < size new → size new ≤ size mid + token_weight o t
    → Grows mid new → BuildsToken o t mid.states new.states s f.start
    → Stands o old new (led s b f ∷ fs) (all_levels (in_level (t ∷ []) l)) e
stands_token o old mid new f fs l t s b e stands is lt count grows builds = record {
  grows = grows_then old mid new stands.grows grows;
  count = let c = stands.count in omega (arith, weight_led o f fs l t stands.blank);
  within = let le = grows.keeps.0 in let w = stands.within in (lt, omega arith, below_more (size mid) (size new) f.starts w.2 le, within_more (size mid) (size new) fs w.3 le);
  blank = blank_led f fs l t s b stands.blank is;
  builds = λ a agrees. open_led o a f fs l t s b e (stands.builds a (agrees_old a mid.states new.states (size old) grows.keeps agrees))
      (builds a (agrees_higher a new.states (size old) (size mid) stands.grows.keeps.0 agrees));
}

pub stands_close : (o : Options) (old new : NfaValue) (f : Frame) (fs : List Frame) (l : Levels) (e : ℕ)
    → Stands o old new (f ∷ fs) (all_levels l) e → Stands o old new (fresh f.start ∷ f ∷ fs) (all_levels (close_level l)) e
stands_close o old new f fs l e stands = record {
  grows = stands.grows;
  count = let c = stands.count in omega arith;
  within = (stands.within.0, stands.within.0, (λ i h. absurd (omega arith)), stands.within);
  blank = (refl, refl, stands.blank);
  builds = λ a agrees. open_fresh o a f fs l e (stands.builds a agrees);
}

pub within_ended : (n : ℕ) (k : Bool) (s : ℕ) (ss : List ℕ) → s < n → AreBelow n ss → AreBelow n (with_start k s ss)
within_ended n true s ss lt h = below_cons n s ss lt h
within_ended n false s ss lt h = h

pub stands_comma : (o : Options) (old new : NfaValue) (f : Frame) (fs : List Frame) (l : Levels) (e : ℕ)
    → Stands o old new (f ∷ fs) (all_levels l) e → Stands o old new (ended o f ∷ fs) (all_levels (next_branch l)) e
stands_comma o old new f fs l e stands = record {
  grows = stands.grows;
  count = let c = stands.count in omega arith;
  within = let w = stands.within in (w.1, w.1, within_ended (size new) (o.empty_alternates || not f.blank) f.start f.starts w.0 w.2, w.3);
  blank = blank_ended o f fs l stands.blank;
  builds = λ a agrees. open_ended o a f fs l e stands.blank (stands.builds a agrees);
}

-- after the first branch of the group is done
pub stands_group : (o : Options) (old mid new : NfaValue) (f g : Frame) (fs : List Frame) (l : Levels) (s e : ℕ)
    → Stands o old mid (f ∷ g ∷ fs) (all_levels (next_branch l)) e → Pushes mid new s (union_state (targets_of f.starts f.exit))
    → Stands o old new (led s f.rest_blank g ∷ fs) (all_levels (open_level l)) e
stands_group o old mid new f g fs l s e stands p = record {
  grows = grows_then old mid new stands.grows (grows_push mid new s (union_state (targets_of f.starts f.exit)) p);
  count = let c = stands.count in let n = p.len in omega (arith, weight_group o f g fs l stands.blank);
  within = let n = p.len in let at = p.at in let w = stands.within.3 in let le : size mid ≤ size new = omega arith in
      (omega arith, omega arith, below_more (size mid) (size new) g.starts w.2 le, within_more (size mid) (size new) fs w.3 le);
  blank = blank_group f g fs l s stands.blank;
  builds = λ a agrees. open_group o a f g fs l s f.rest_blank e (stands.builds a (agrees_old a mid.states new.states (size old) p.keeps agrees)) (p.adds a (size old) stands.grows.keeps.0 agrees);
}

pub stands_flat : (o : Options) (old mid new : NfaValue) (f : Frame) (fs : List Frame) (l : Levels) (t : Flat) (s e : ℕ)
    → Stands o old mid (f ∷ fs) (all_levels l) e → IsNotBlank t → s < size new → size new ≤ size mid + flat_weight o t
    → Grows mid new → BuildsFlat o t mid.states new.states s f.start
    → Stands o old new (led s false f ∷ fs) (all_levels (level t l)) e
stands_flat o old mid new f fs l (simple t) s e stands is lt count grows builds = stands_token o old mid new f fs l t s false e stands (sym is) lt count grows builds
stands_flat o old mid new f fs l opening s e stands is lt count grows builds = absurd builds
stands_flat o old mid new f fs l comma s e stands is lt count grows builds = absurd builds
stands_flat o old mid new f fs l closing s e stands is lt count grows builds = absurd builds

-- at the end the whole list is one branch, around which nothing is open
pub stands_whole : (o : Options) (old new : NfaValue) (f : Frame) (fs : List Frame) (l : Levels) (e : ℕ)
    → Stands o old new (f ∷ fs) (all_levels l) e → length l.1 ≡ 0 → Builds o (first_branch l.0) old.states new.states f.start e
stands_whole o old new f fs (none, more) e stands h = absurd stands.blank
stands_whole o old new f [] (branch ts bs, more) e stands h = λ a agrees. let b = stands.builds a agrees in subst (λ x. IsBuilt o a f.start ts x) b.2 b.0
stands_whole o old new f (g ∷ fs) (branch ts bs, []) e stands h = absurd stands.blank.2
stands_whole o old new f (g ∷ fs) (branch ts bs, outer ∷ more) e stands h = absurd (omega arith)

-- the frames around, by the list that has them
pub frames_length : (f : Frame) (fs : List kept.Frame) (l : Levels) → AreBlank (f ∷ frames_of fs) (all_levels l) → length fs ≡ length l.1
frames_length f fs l h =
    let e = blank_depth (f ∷ frames_of fs) (all_levels l) h in
    let m = length-map (reverse fs) frame_of in
    let r = length-reverse fs in
    omega arith

-- a list of one branch has its states alone
pub weight_whole : (o : Options) (l : Levels) (n m : ℕ) → length l.1 ≡ 0 → IsSole l.0 l.1 → n ≤ m + levels_weight o (all_levels l) → n ≤ m + weight o (first_branch l.0)
weight_whole o (none, []) n m d is le = le
weight_whole o (branch ts bs, []) n m d is le = let e : branches_weight o bs ≡ 0 = ap (branches_weight o) is in omega arith
weight_whole o (bs, outer ∷ more) n m d is le = absurd (omega arith)
