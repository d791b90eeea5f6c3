-- How many states an automaton over bytes can need for the tokens of a text.
use Rattle.std.specs.Prelude.{ℕ, if◌then◌else◌}
use Rattle.glob_syntax.specs.declared.options.Options.{Options}

-- the most states for each byte of the text: a `?` that matches a whole character has 16, and any other byte at most 4
abbrev pub states_per_byte : Options → ℕ
states_per_byte o = if o.whole_character then 16 else 4
