-- Which globs can be decided without an automaton.
use Rattle.std.specs.Prelude.{ℕ, Bool, true, not, ◌&&◌, ◌||◌, List, Option, Some, None}
use Rattle.std.specs.Str.{bytes_eq}
use Rattle.glob_syntax.specs.declared.options.Options.{Options}
use Rattle.glob_syntax.specs.Token.{Tokens}
use Rattle.glob_syntax.specs.TokensMatch.{is_prefix}
use Rattle.glob_path.specs.PathParts.{component_extension}
use Rattle.glob_strategy.specs.TokenTests.{first_and_rest, ending, is_whole_path, is_last_components, is_star_extension, is_end, is_beginning, is_below_folder}

-- A glob with these tokens is direct: it is case-sensitive, and the tokens are
-- - at least one literal, and only literals;
-- - RecursivePrefix, and at least one literal, and only literals;
-- - `*` that matches `/`, and any literals, perhaps none; or RecursivePrefix before these;
-- - any literals and a last `*` that matches `/`; or RecursivePrefix alone;
-- - any literals and a last RecursiveSuffix; or
-- - RecursivePrefix, `*`, a literal `.`, and any literals other than `.` and `/`.
-- `*` matches `/` if `literal_separator` is off.
unfoldable pub is_direct : Options → Tokens → Bool
is_direct o ts =
    not o.case_insensitive && (is_whole_path ts ||
    (is_last_components ts ||
    (is_end o ts ||
    (is_beginning o ts ||
    (is_below_folder ts || first_and_rest is_prefix is_star_extension ts)))))

-- The path has the ending that tokens require: it is the extension of the path's last component. Tokens without an ending
-- require none.
abbrev pub has_ending : Option (List ℕ) → List ℕ → Bool
has_ending None path = true
has_ending (Some key) path = bytes_eq key (component_extension path)

-- An automaton is needed to decide whether a glob with these tokens is reported for the path: the glob is not direct, and no
-- ending of its tokens shows that it does not match. A case-insensitive glob has no such ending.
unfoldable pub needs_automaton : Options → Tokens → List ℕ → Bool
needs_automaton o ts path = not (is_direct o ts) && (o.case_insensitive || has_ending (ending ts) path)
