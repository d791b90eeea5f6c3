use Rattle.std.proofs.Common.{◌∙◌, ap}
use Rattle.std.specs.Option.{option_copied}
use Rattle.ignore_pattern.specs.Lines.{without_byte_order_mark}
use Rattle.git_ignore.specs.inner.Entries.{StoredValue}
use Rattle.git_ignore.proofs.lemmas.Lines.{no_text, text_found}
use Rattle.git_ignore.proofs.stored.StoredRules.line_text.Goals as goal

pub returns-in_err-line_at : goal.returns-in_err-line_at
returns-in_err-line_at c =
    ap option_copied c.from_residual.ensures
    ∙ no_text c.args.self.now.file c.after_mark.result.now c.args.number
    (c.after_mark.ensures ∙ ap without_byte_order_mark (c.deref.ensures.value ∙ ap (λ (s : StoredValue). s.file) c.self.view_is)) c.in_err-line_at.ensures

pub returns : goal.returns
returns c =
    text_found c.args.self.now.file c.after_mark.result.now _ c.line_text.result.now c.args.number
    (c.after_mark.ensures ∙ ap without_byte_order_mark (c.deref.ensures.value ∙ ap (λ (s : StoredValue). s.file) c.self.view_is)) c.in_ok-line_at.ensures c.line_text.ensures
