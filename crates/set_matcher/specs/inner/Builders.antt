-- What it means that tokens are added to automata.
use Rattle.std.specs.Prelude.{◌≡◌, ℕ, ◌+◌, ◌≤◌, List, [], ◌∷◌, ◌++◌}
use Rattle.byte_nfa.specs.Runs.{max_reads}
use Rattle.byte_nfa.specs.Steps.{NfaValue}
use Rattle.glob_strategy.specs.IndexedTokens.{IndexedTokens, IsFor}
use Rattle.glob_syntax.specs.inner.Weight.{weight}
use Rattle.set_matcher.specs.declared.automata.Target.{Target}
use Rattle.set_matcher.specs.declared.automata.Target.TheVariants.{Path, LastComponent, Extension}
use Rattle.set_matcher.specs.inner.Automata.{AddsReads, AddsTokensTo, AutomataParts, ExtensionParts, total_reads}

-- the most reads for tokens at a position of a text: their states, and three entries of a filter
abbrev pub reads_of : IndexedTokens → ℕ
reads_of x = weight x.options x.tokens + 4

-- the automaton is for these tokens, too
pub record AddsToNfa (old new : NfaValue) (x : IndexedTokens) : Type 0 where
  pub tokens : (xs : List IndexedTokens) → IsFor old xs → IsFor new (xs ++ x ∷ [])
  pub reads : max_reads new ≤ max_reads old + reads_of x

-- the automaton of the extension is for these tokens, too
pub record AddsToExtension (key : List ℕ) (old new : ExtensionParts) (x : IndexedTokens) : Type 0 where
  pub tokens : AddsTokensTo old new key x
  pub reads : AddsReads old new key (reads_of x)
  pub total : total_reads new.nfas ≤ total_reads old.nfas + reads_of x

-- the target is for these tokens, too, and the other automata stay as they are
abbrev pub AddsTo : Target → AutomataParts → AutomataParts → IndexedTokens → Type 0
AddsTo Path old new x = AddsToNfa old.by_path new.by_path x × (new ≡ record old { by_path = new.by_path })
AddsTo LastComponent old new x = AddsToNfa old.by_component new.by_component x × (new ≡ record old { by_component = new.by_component })
AddsTo (Extension key) old new x = AddsToExtension key.items old.extensions new.extensions x × (new ≡ record old { extensions = new.extensions })
