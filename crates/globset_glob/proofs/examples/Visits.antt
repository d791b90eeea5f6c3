-- Examples of the bound on visits: four for each byte of the glob, or sixteen where `?` matches whole characters, and four, at
-- each position of the path. Each row computes.
use Rattle.std.specs.Prelude.{◌≡◌, ◌+◌, ◌*◌, [], ◌∷◌, refl}
use Rattle.glob_syntax.specs.declared.options.TheConstants.Options.{DEFAULT}
use Rattle.glob_text.specs.Cost.{cost, max_visits}
use Rattle.glob_text.proofs.examples.Unfoldings.{glob_on_literals}
use Rattle.glob_syntax.proofs.examples.Words.{AreEqual, whole}
use Rattle.glob_text.proofs.examples.Words.{utf8, glob_of}

max_visits_rows : AreEqual (
    (max_visits (glob_of DEFAULT "a*a*a*a*a*a*a*a*a") (utf8 "aaaaaaaaa"), 720)  -- visits of eight stars
    ∷ (max_visits (glob_of DEFAULT "é") (utf8 "☃"), 48)  -- visits count bytes
    ∷ (max_visits (glob_of DEFAULT "") (utf8 ""), 4)  -- visits of empty texts
    ∷ [])
unfolding glob_on_literals
max_visits_rows = refl

visits_of_many_stars : (1000 + 1) * cost (glob_of DEFAULT "*a*a*a*a*a*a*a*b") ≡ 68068
unfolding glob_on_literals
visits_of_many_stars = refl

visits_of_a_whole_character : max_visits (glob_of whole "?") (0xF4 ∷ 0x8F ∷ 0xBF ∷ 0xBF ∷ []) ≡ 100
unfolding glob_on_literals
visits_of_a_whole_character = refl
