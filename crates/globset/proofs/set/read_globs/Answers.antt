use Rattle.std.proofs.Common.{refl, ap, sym, arith, Ok, ◌∷◌, [], length, length-append, ◌∙◌}
use Rattle.serde_json.specs.View.{items_view}
use Rattle.globset.specs.SetFromValue.{globs_from}
use Rattle.globset.proofs.lemmas.SetFromValue.{one_glob, one_error, all_globs}
use Rattle.globset.proofs.set.read_globs.Goals as goal

pub returns-in-Err : goal.returns-in-Err
returns-in-Err c =
    one_error c.args.values.now c.loop-index.index c.index-values-index.result c.loop-index.builder.given c.in-Err.error c.error_of_element.result
    (globs_from 0 (items_view c.args.values.now)) c.loop-index-test.true c.index-values-index.is c.loop-index.invariant.read c.in-Err.ensures.err c.error_of_element.ensures

pub loop-index-preserved : goal.loop-index-preserved
loop-index-preserved c =
    let given = c.loop-index.builder.given in
    let more = c.in_ok-add-in-Ok.ensures.glob in record {
      read = one_glob c.args.values.now c.loop-index.index c.index-values-index.result given c.add.new.builder.given c.in-Ok.glob c.in-Ok.glob
          (globs_from 0 (items_view c.args.values.now)) c.loop-index-test.true c.index-values-index.is c.loop-index.invariant.read c.in-Ok.ensures.ok refl more;
      so_far = omega (arith, ap length more, length-append given (c.in-Ok.glob ∷ []), c.loop-index.invariant.so_far);
      count = c.add.ensures.count ∙ c.loop-index.invariant.count;
    }

pub returns : goal.returns
returns c =
    all_globs c.args.values.now c.loop-index.index c.loop-index.builder.given (globs_from 0 (items_view c.args.values.now)) c.loop-index-test.false c.loop-index.invariant.read
    ∙ ap Ok (sym c.in_ok-finish.ensures ∙ sym c.of_matcher.ensures.globs)
