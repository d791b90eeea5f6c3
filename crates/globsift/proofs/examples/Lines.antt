-- Examples of input cut into lines. Each row computes.
use Rattle.std.specs.Prelude.{◌≡◌, [], ◌∷◌, codes, refl}
use Rattle.globsift.specs.Lines.{lines, through_last_lf}

no_input : lines [] ≡ []
no_input = refl

one_line : lines (codes "a\n") ≡ codes "a" ∷ []
one_line = refl

unended_line : lines (codes "a") ≡ codes "a" ∷ []
unended_line = refl

unended_rest : lines (codes "src/a.rs\nb.c\nsrc/") ≡ codes "src/a.rs" ∷ codes "b.c" ∷ codes "src/" ∷ []
unended_rest = refl

one_lf : lines (codes "\n") ≡ [] ∷ []
one_lf = refl

empty_lines : lines (codes "\na\n\n") ≡ [] ∷ codes "a" ∷ [] ∷ []
empty_lines = refl

cr_stays : lines (codes "a.c\r\nb.c\r") ≡ codes "a.c\r" ∷ codes "b.c\r" ∷ []
cr_stays = refl

cr_ends_no_line : lines (codes "a\rb\n") ≡ codes "a\rb" ∷ []
cr_ends_no_line = refl

cr_alone : lines (codes "\r\n") ≡ codes "\r" ∷ []
cr_alone = refl

-- NUL, and bytes that are not UTF-8
any_bytes : lines (97 ∷ 0 ∷ 10 ∷ 255 ∷ 10 ∷ 195 ∷ []) ≡ (97 ∷ 0 ∷ []) ∷ (255 ∷ []) ∷ (195 ∷ []) ∷ []
any_bytes = refl

-- ---- what was read whole

last_lf_at_the_end : through_last_lf (codes "a\nb\n") ≡ codes "a\nb\n"
last_lf_at_the_end = refl

rest_after_the_last_lf : through_last_lf (codes "a\n\nb") ≡ codes "a\n\n"
rest_after_the_last_lf = refl

no_lf : through_last_lf (codes "ab") ≡ []
no_lf = refl

nothing_read : through_last_lf [] ≡ []
nothing_read = refl
