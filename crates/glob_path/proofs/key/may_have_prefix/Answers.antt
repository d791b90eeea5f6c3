use Rattle.std.proofs.Common.{sym, ◌∙◌, true≢false}
use Rattle.glob_path.proofs.lemmas.Keys.{may_begin}
use Rattle.glob_path.proofs.key.may_have_prefix.Goals as goal

pub returns : goal.returns
returns c = may_begin c.args.folder.now c.args.key.now c.has_prefix.result (λ long. true≢false (sym (c.is_below.ensures.1 long) ∙ c.if-is_below.false)) c.has_prefix.ensures
