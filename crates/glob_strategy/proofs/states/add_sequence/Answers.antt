use Rattle.std.proofs.Common.{◌≡◌, ◌+◌, ◌-◌, ◌<◌, ◌||◌, not, [], ◌∷◌, ◌++◌, length, drop, arith, sym, ap, subst, ◌∙◌}
use Rattle.std.proofs.lemmas.List.{drop_more}
use Rattle.glob_syntax.specs.Reading.{next_branch}
use Rattle.glob_syntax.specs.FlatTokens.{all_levels, levels_of, opening, comma, closing}
use Rattle.glob_syntax.specs.Views.{flat_of, flats}
use Rattle.glob_syntax.proofs.lemmas.FlatTokens.{levels_more, open_around, depth, sole}
use Rattle.byte_nfa.specs.Steps.{union_state}
use Rattle.bit_sets.specs.Numbers.{AreBelow}
use Rattle.byte_nfa.specs.Building.{Pushes}
use Rattle.byte_nfa.specs.Runs.{size}
use Rattle.glob_strategy.specs.inner.Frames.{Frame, frame_of, frames_of, ended, targets_of, Stands}
use Rattle.glob_strategy.proofs.lemmas.Frames.{frames_push, frames_length, below_targets, within_ended, stands_flat, stands_close, stands_comma, stands_group, stands_whole, weight_whole}
use Rattle.glob_syntax.proofs.lemmas.TokenLists.{not_blank}
use Rattle.glob_strategy.proofs.states.add_sequence.Goals as goal
use Rattle.glob_strategy.proofs.states.add_sequence.Goals.{in-Close+in_ok-push-in-Close, in-Comma+in_ok-frame-in-Comma, in-Open+in_ok-group-in-Open+in_ok-targets-in-Open+in_ok-start-in-Open+in-Some, in_default+in_ok-start-in_default}

pub unreachable-requires : goal.unreachable-requires
unreachable-requires c =
    let inv = c.loop-i.invariant in
    let tokens = c.args.tokens.now in
    let i = c.loop-i.i in
    let j = length tokens - 1 - i in
    let token = c.index-tokens-tokens.result in
    let lt : j < length tokens = omega arith in
    let up : length tokens - i ≡ j + 1 = omega arith in
    let more : drop j tokens ≡ token ∷ drop (j + 1) tokens = drop_more tokens j token lt ∙ ap (λ x. x ∷ drop (j + 1) tokens) (sym c.index-tokens-tokens.is) in
    let some = open_around tokens j token c.requires.nested more (ap flat_of c.in-Open.is) in
    let depth = frames_length (frame_of c.loop-i.frame) c.loop-i.around.items (levels_of (flats (drop (j + 1) tokens))) (rw up at inv.blank) in
    let none = rw c.in_default-pop.is at c.pop.ensures.cases in
    omega (arith, none.0, c.loop-i.around.ok.0)

-- what the group skips to is there
pub push_union-requires : goal.push_union-requires
push_union-requires c =
    let inv = c.loop-i.invariant in
    let o = c.args.options in
    let tokens = c.args.tokens.now in
    let i = c.loop-i.i in
    let j = length tokens - 1 - i in
    let lt : j < length tokens = omega arith in
    let up : length tokens - i ≡ j + 1 = omega arith in
    let f = frame_of c.loop-i.frame in
    let fs = frames_of c.loop-i.around.items in
    let mid = c.loop-i.builder in
    let done : frame_of c.in_ok-group-in-Open.group ≡ ended o f = c.in_ok-group-in-Open.ensures in
    let n = inv.within in
    let below : AreBelow (size mid) (targets_of (frame_of c.in_ok-group-in-Open.group).starts (frame_of c.in_ok-group-in-Open.group).exit) =
    subst (λ (g : Frame). AreBelow (size mid) (targets_of g.starts g.exit)) (sym done) (below_targets (size mid) (ended o f).starts (ended o f).exit (within_ended (size mid) (o.empty_alternates || not f.blank) f.start f.starts n.0 n.2) n.1) in
    rw (c.deref.ensures.value, c.in_ok-targets-in-Open.ensures) below

pub loop-i-preserved : goal.loop-i-preserved
loop-i-preserved c =
    let inv = c.loop-i.invariant in
    let o = c.args.options in
    let tokens = c.args.tokens.now in
    let i = c.loop-i.i in
    let j = length tokens - 1 - i in
    let token = c.index-tokens-tokens.result in
    let lt : j < length tokens = omega arith in
    let up : length tokens - i ≡ j + 1 = omega arith in
    let down : length tokens - (i + 1) ≡ j = omega arith in
    let more : drop j tokens ≡ token ∷ drop (j + 1) tokens = drop_more tokens j token lt ∙ ap (λ x. x ∷ drop (j + 1) tokens) (sym c.index-tokens-tokens.is) in
    let l = levels_of (flats (drop (j + 1) tokens)) in
    let old = c.args.builder.now in
    let mid = c.loop-i.builder in
    let f = frame_of c.loop-i.frame in
    let fs = frames_of c.loop-i.around.items in
    let e = c.args.exit in
    let here = levels_more tokens j token more in
    let was : Stands o old mid (f ∷ fs) (all_levels l) e = rw up at inv in
    elim c.match-token.branch [
      | in-Close+in_ok-push-in-Close w ↦
          let is : flat_of token ≡ closing = ap flat_of w.in-Close.is in
          rw (down, here, is, w.builder-is, w.frame-is, w.around-is, w.new-inner.ensures, w.in_ok-push-in-Close.ensures.items, frames_push)
          (stands_close o old mid f fs l e was)
      | in-Comma+in_ok-frame-in-Comma w ↦
          let is : flat_of token ≡ comma = ap flat_of w.in-Comma.is in
          rw (down, here, is, w.builder-is, w.frame-is, w.around-is, w.in_ok-frame-in-Comma.ensures)
          (stands_comma o old mid f fs l e was)
      | in-Open+in_ok-group-in-Open+in_ok-targets-in-Open+in_ok-start-in-Open+in-Some w ↦
          let is : flat_of token ≡ opening = ap flat_of w.in-Open.is in
          let group = w.in_ok-group-in-Open.group in
          let done : frame_of group ≡ ended o f = w.in_ok-group-in-Open.ensures in
          let outer = w.in-Some.outer in
          let rest = w.pop.new.self.items in
          let new = w.push_union.new.self in
          let start = w.in_ok-start-in-Open.start in
          let around : c.loop-i.around.items ≡ rest ++ outer ∷ [] = rw w.in-Some.is at w.pop.ensures.items in
          let stands : Stands o old mid (frame_of group ∷ frame_of outer ∷ frames_of rest) (all_levels (next_branch l)) e =
          rw (done, ← frames_push rest outer, ← around) (stands_comma o old mid f fs l e was) in
          let pushed : Pushes mid new start (union_state (targets_of (frame_of group).starts (frame_of group).exit)) =
          rw (w.deref.ensures.value, w.in_ok-targets-in-Open.ensures) at w.in_ok-start-in-Open.ensures.pushed in
          rw (down, here, is, w.builder-is, w.frame-is, w.around-is, w.lead-frame.ensures)
          (stands_group o old mid new (frame_of group) (frame_of outer) (frames_of rest) l start e stands pushed)
      | in_default+in_ok-start-in_default w ↦
          rw (down, here, w.builder-is, w.frame-is, w.around-is, w.lead-frame-in_default.ensures)
          (stands_flat o old mid w.add_token.new.builder f fs l (flat_of token) w.in_ok-start-in_default.start e was (not_blank token)
          w.in_ok-start-in_default.ensures.within w.in_ok-start-in_default.ensures.count w.add_token.ensures.grows w.in_ok-start-in_default.ensures.builds)
    ]

pub returns-clause-count : goal.returns-clause-count
returns-clause-count c =
    let tokens = c.args.tokens.now in
    let whole : length tokens - c.loop-i.i ≡ 0 = omega arith in
    let inv = rw whole at c.loop-i.invariant in
    let nested = c.requires.nested in
    weight_whole c.args.options (levels_of (flats tokens)) (size c.loop-i.builder) (size c.args.builder.now) (depth 0 (flats tokens) nested) (sole 0 (flats tokens) nested) inv.count

pub returns-clause-builds : goal.returns-clause-builds
returns-clause-builds c =
    let tokens = c.args.tokens.now in
    let whole : length tokens - c.loop-i.i ≡ 0 = omega arith in
    let inv = rw whole at c.loop-i.invariant in
    stands_whole c.args.options c.args.builder.now c.loop-i.builder (frame_of c.loop-i.frame) (frames_of c.loop-i.around.items) (levels_of (flats tokens)) c.args.exit
    inv (depth 0 (flats tokens) c.requires.nested)
