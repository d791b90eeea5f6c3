use Rattle.std.proofs.Common.{◌≡◌, suc, ◌+◌, take, sym, ap, ◌∙◌, arith}
use Rattle.serde_json.specs.View.{members_view}
use Rattle.globset_glob.specs.Values.{keyed_options, with_option, with_options}
use Rattle.globset_glob.proofs.lemmas.Members.{with_next}
use Rattle.globset_glob.proofs.json.put_options.Goals as goal

pub loop-i-preserved : goal.loop-i-preserved
loop-i-preserved c =
    let entries = members_view c.args.members.now.entries in
    let options = keyed_options c.args.options in
    let next : suc c.loop-i.i ≡ c.loop-i.i + 1 = omega arith in
    c.in_ok-put_option.ensures ∙ ap (with_option _) c.loop-i.invariant
    ∙ sym (with_next c.keyed-options.result c.keyed-defaults.result options c.keyed-options.ensures.keys c.keyed-options.ensures.values c.keyed-defaults.ensures.values
    c.loop-i.i c.loop-i-test.true _ _ entries)
    ∙ ap (λ n. with_options (take n options) entries) next
