-- Blank branches of groups, which match only under `empty_alternates`.
use Rattle.std.specs.Prelude.{Bool, true, false, ◌&&◌, ◌||◌, not}
use Rattle.glob_syntax.specs.declared.options.Options.{Options}
use Rattle.glob_syntax.specs.Token.{Token, Group, Tokens, end, and_then, Branches, none, branch}

-- A branch is blank if each of its tokens is a group whose branches are all blank. An empty branch is blank.
abbrev mutual
  pub is_blank_token : Token → Bool
  is_blank_token (Group bs) = are_blank bs
  is_blank_token _ = false

  pub is_blank : Tokens → Bool
  is_blank end = true
  is_blank (and_then t ts) = is_blank_token t && is_blank ts

  pub are_blank : Branches → Bool
  are_blank none = true
  are_blank (branch ts bs) = is_blank ts && are_blank bs

-- A branch is kept if it is not blank, or under `empty_alternates`.
abbrev pub is_kept : Options → Tokens → Bool
is_kept o ts = o.empty_alternates || not (is_blank ts)

-- a group with these branches has a kept branch
abbrev pub any_kept : Options → Branches → Bool
any_kept o none = false
any_kept o (branch ts bs) = is_kept o ts || any_kept o bs
