-- `==` of globs is that of their texts and options.
use Rattle.std.proofs.Common.{◌≡◌, Bool, true, ◌↔◌, ap, sym, ◌∙◌}
use Rattle.std.specs.Bool.{Decides}
use Rattle.std.specs.Cmp.{booleans_Decides}
use Rattle.std.proofs.lemmas.Bool.Decides.{Decides-and}
use Rattle.std.proofs.lemmas.Slice.Eq.{bytes_eq-Decides}
use Rattle.glob_syntax.specs.declared.options.Options.{Options}
use Rattle.glob_text.specs.GlobMatches.{GlobValue}
use Rattle.glob_text.specs.inner.Equality.{same_options, same_glob}

pub same_options_decides : (o p : Options) → Decides (same_options o p) (o ≡ p)
same_options_decides o p =
    let d = Decides-and _ _ (booleans_Decides o.case_insensitive p.case_insensitive)
    (Decides-and _ _ (booleans_Decides o.literal_separator p.literal_separator)
    (Decides-and _ _ (booleans_Decides o.backslash_escape p.backslash_escape)
    (Decides-and _ _ (booleans_Decides o.empty_alternates p.empty_alternates)
    (Decides-and _ _ (booleans_Decides o.allow_unclosed_class p.allow_unclosed_class)
    (booleans_Decides o.whole_character p.whole_character))))) in (
      λ h. let e = d.0 h in λ i. record {
        case_insensitive = e.0 i;
        literal_separator = e.1.0 i;
        backslash_escape = e.1.1.0 i;
        empty_alternates = e.1.1.1.0 i;
        allow_unclosed_class = e.1.1.1.1.0 i;
        whole_character = e.1.1.1.1.1 i;
      },
      λ e. d.1 (ap (λ q. q.case_insensitive) e, (ap (λ q. q.literal_separator) e, (ap (λ q. q.backslash_escape) e, (ap (λ q. q.empty_alternates) e, (ap (λ q. q.allow_unclosed_class) e, ap (λ q. q.whole_character) e))))),
    )

same_glob_decides : (g h : GlobValue) → Decides (same_glob g h) (g ≡ h)
same_glob_decides g h =
    let d = Decides-and _ _ (bytes_eq-Decides g.text h.text) (same_options_decides g.options h.options) in (
      λ t. let e = d.0 t in λ i. record { text = e.0 i; options = e.1 i },
      λ e. d.1 (ap (λ q. q.text) e, ap (λ q. q.options) e),
    )

-- the test of two globs is true exactly where they are the same
pub equal_globs : (g h : GlobValue) (b : Bool) → b ≡ same_glob g h → (b ≡ true) ↔ (g ≡ h)
equal_globs g h b is = (λ t. (same_glob_decides g h).0 (sym is ∙ t), λ e. is ∙ (same_glob_decides g h).1 e)
