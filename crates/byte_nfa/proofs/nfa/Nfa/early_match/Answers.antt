use Rattle.std.proofs.Common.{◌≡◌, ℕ, List, [], ◌<◌, ◌-◌, ◌∙◌, length, get_or, arith, ap, refl, sym, subst}
use Rattle.std.proofs.lemmas.List.{length-map, get_or_default}
use Rattle.byte_nfa.specs.Runs.{size}
use Rattle.byte_nfa.specs.Steps.{NfaValue}
use Rattle.byte_nfa.specs.declared.state.State as declared
use Rattle.byte_nfa.specs.declared.state.State.TheVariants.{Bytes, Match}
use Rattle.byte_nfa.specs.inner.Views.{GoesBelow, of_state}
use Rattle.byte_nfa.proofs.lemmas.Reading.{held_at, state_at, read_state}
use Rattle.byte_nfa.proofs.lemmas.EarlyMatches.{always_matches_none, decides_end, decides_other, decides_none, tells_none}
use Rattle.byte_nfa.proofs.nfa.Nfa.early_match.Goals as goal

-- a state that is read from a list
stands_at : (xs : List declared.State) (i : ℕ) (x : declared.State) → i < length xs → get_or xs i (Bytes 0 0) ≡ x → x ≡ get_or xs i x
stands_at xs i x lt e = sym e ∙ get_or_default xs i (Bytes 0 0) x lt

pub only_exit-requires : goal.only_exit-requires
only_exit-requires c =
    let sets = c.self.inside.sets.items in
    let targets = c.self.inside.targets.items in
    let states = c.self.inside.states.items in
    let lt : c.args.s < length states = omega (arith, c.requires.exists, ap size c.self.view_is, length-map states (of_state sets targets)) in
    rw c.deref.ensures.value record {
      below = (
        targets,
        held_at sets targets states c.args.s c.index.result.now c.self.invariant.held lt c.index.ensures,
        subst (GoesBelow c.args.s) (state_at sets targets states c.args.s c.index.result.now lt c.index.ensures) (c.self.invariant.down c.args.s),
      );
    }

pub bounds : goal.bounds
bounds c = omega (arith, (c.in-Some.ensures.exit []).1, c.requires.len)

pub offset_bounds-below-exit : goal.offset_bounds-below-exit
offset_bounds-below-exit c = omega (arith, (c.in-Some.ensures.exit []).1, c.requires.len, c.well_formed)

pub returns-in_default : goal.returns-in_default
returns-in_default c =
    let inside = c.self.inside in
    let sets = inside.sets.items in
    let targets = inside.targets.items in
    let states = inside.states.items in
    let m = c.args.self.now in
    let lt : c.args.s < length states = omega (arith, c.requires.exists, ap size c.self.view_is, length-map states (of_state sets targets)) in
    let is = read_state m sets targets states inside.starts.items inside.index_count c.args.s c.index.result.now c.self.view_is lt c.index.ensures in
    always_matches_none m.states c.args.s (of_state sets targets c.index.result.now) is (rw c.deref.ensures.value at c.in_default.ensures.exit targets)

pub returns-in-Match : goal.returns-in-Match
returns-in-Match c =
    let inside = c.self.inside in
    let sets = inside.sets.items in
    let targets = inside.targets.items in
    let states = inside.states.items in
    let m = c.args.self.now in
    let n : inside.index_count ≡ m.index_count = ap (λ (o : NfaValue). o.index_count) c.self.view_is in
    let lt : c.args.s < length states = omega (arith, c.requires.exists, ap size c.self.view_is, length-map states (of_state sets targets)) in
    let is = read_state m sets targets states inside.starts.items inside.index_count c.args.s c.index.result.now c.self.view_is lt c.index.ensures in
    let exit = rw c.deref.ensures.value at (c.in-Some.ensures.exit targets) in
    let tells = c.requires.below c.in-Some.exit (Match c.in-Match.index) exit.1 (stands_at c.args.below.now c.in-Some.exit (Match c.in-Match.index) (omega (arith, exit.1, c.requires.len)) c.in-Match.is) in
    decides_other m.states m.index_count c.args.s c.in-Some.exit (of_state sets targets c.index.result.now) is exit.0 c.in-Match.index (c.in-Match.index - inside.index_count)
    tells (omega (arith, n, c.if-index-self.true)) (omega (arith, n))

pub returns-in-Match-2 : goal.returns-in-Match-2
returns-in-Match-2 c =
    let inside = c.self.inside in
    let sets = inside.sets.items in
    let targets = inside.targets.items in
    let states = inside.states.items in
    let m = c.args.self.now in
    let n : inside.index_count ≡ m.index_count = ap (λ (o : NfaValue). o.index_count) c.self.view_is in
    let lt : c.args.s < length states = omega (arith, c.requires.exists, ap size c.self.view_is, length-map states (of_state sets targets)) in
    let is = read_state m sets targets states inside.starts.items inside.index_count c.args.s c.index.result.now c.self.view_is lt c.index.ensures in
    let same : c.in-Match-2.index ≡ c.in-Match.index = (let h : Match c.in-Match-2.index ≡ Match c.in-Match.index = sym c.in-Match-2.is ∙ c.in-Match.is in cc) in
    let exit = rw c.deref.ensures.value at (c.in-Some.ensures.exit targets) in
    let tells = c.requires.below c.in-Some.exit (Match c.in-Match-2.index) exit.1 (stands_at c.args.below.now c.in-Some.exit (Match c.in-Match-2.index) (omega (arith, exit.1, c.requires.len)) c.in-Match-2.is) in
    decides_end m.states m.index_count c.args.s c.in-Some.exit (of_state sets targets c.index.result.now) is exit.0 c.in-Match-2.index
    tells (omega (arith, n, c.if-index-self.false, same))

pub returns-in_default-below : goal.returns-in_default-below
returns-in_default-below c =
    let inside = c.self.inside in
    let sets = inside.sets.items in
    let targets = inside.targets.items in
    let states = inside.states.items in
    let m = c.args.self.now in
    let lt : c.args.s < length states = omega (arith, c.requires.exists, ap size c.self.view_is, length-map states (of_state sets targets)) in
    let is = read_state m sets targets states inside.starts.items inside.index_count c.args.s c.index.result.now c.self.view_is lt c.index.ensures in
    let exit = rw c.deref.ensures.value at (c.in-Some.ensures.exit targets) in
    let x : declared.State = get_or c.args.below.now c.in-Some.exit (Bytes 0 0) in
    let tells = c.requires.below c.in-Some.exit x exit.1 (stands_at c.args.below.now c.in-Some.exit x (omega (arith, exit.1, c.requires.len)) refl) in
    decides_none m.states m.index_count c.args.s c.in-Some.exit (of_state sets targets c.index.result.now) is exit.0
    (tells_none m.states m.index_count c.in-Some.exit x c.in_default-below.not-Match tells)
