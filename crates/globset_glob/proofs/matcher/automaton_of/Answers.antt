use Rattle.std.proofs.Common.{◌≡◌, sym, subst}
use Rattle.std.proofs.lemmas.Result.{IfOk-weaker}
use Rattle.globset_glob.specs.inner.GlobNfa.{IsAutomatonOf}
use Rattle.glob_syntax.specs.Views.{tokens_of}
use Rattle.globset_glob.proofs.lemmas.GlobNfa.{automaton_is}
use Rattle.globset_glob.proofs.matcher.automaton_of.Goals as goal

pub returns : goal.returns
returns c =
    let adds = c.in_ok-add_tokens.ensures in
    let is : IsAutomatonOf c.args.glob.now c.finish-automaton.result = rw c.finish-automaton.ensures (automaton_is c.args.glob.now c.options_of.result (tokens_of c.flat_tokens_of.result.now) c.new_builder-builder.result c.add_tokens.new.builder c.options_of.ensures
    c.flat_tokens_of.ensures.read (rw c.options_of.ensures c.flat_tokens_of.ensures.weight) c.new_builder-builder.ensures.tokens c.new_builder-builder.ensures.reads adds.tokens adds.reads) in
    IfOk-weaker c.new.result (λ m. m ≡ c.finish-automaton.result) (λ m. IsAutomatonOf c.args.glob.now m) (λ m same. subst (IsAutomatonOf c.args.glob.now) (sym same) is) c.new.ensures
