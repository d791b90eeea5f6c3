use Rattle.std.proofs.Common.{◌/◌, inl, inr, arith}
use Rattle.std.proofs.lemmas.Bool.{cases_lt}
use Rattle.bit_sets.proofs.lemmas.Clearing.{cleared_limit, cleared_past, cleared_next, kept_next}
use Rattle.bit_sets.proofs.words.clear_words.Goals as goal

pub loop-place-preserved : goal.loop-place-preserved
loop-place-preserved c =
    let inv = c.loop-place.invariant in
    let (le, is, none) = c.in-Some.ensures in
    record {
      cleared = cleared_next c.args.words.now c.loop-place.words c.args.places.now c.loop-place.from inv.cleared inv.kept c.in-Some.place (omega arith) none is;
      kept = kept_next c.args.words.now c.loop-place.words c.args.places.now c.loop-place.from inv.cleared inv.kept c.in-Some.place le;
    }

pub returns-then-place-words : goal.returns-then-place-words
returns-then-place-words c = λ k.
    let inv = c.loop-place.invariant in
    let (le, is, none) = c.in-Some.ensures in
    elim (cases_lt (k / 64) c.in-Some.place) [
      | inl before ↦ cleared_limit c.args.words.now c.loop-place.words c.args.places.now c.loop-place.from inv.cleared inv.kept k (λ low. none (k / 64) low before)
      | inr past ↦ cleared_past c.args.words.now c.loop-place.words c.args.places.now c.loop-place.from inv.cleared inv.kept k (omega arith) (omega arith)
    ]
