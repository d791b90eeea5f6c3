-- The ends of rows' keys.
use Rattle.std.proofs.Common.{◌≡◌, ℕ, true, List, ◌+◌, ◌<◌, length, get_or, take}
use Rattle.std.proofs.lemmas.List.Elements.{All-more, All-weaker}
use Rattle.glob_path.specs.declared.rows.Ends.{Ends}
use Rattle.glob_path.specs.declared.rows.Row.{Row}
use Rattle.glob_path.specs.inner.Ends.{ends_have, HasEnds}
use Rattle.glob_path.specs.inner.Rows.{row_key}

-- one row more
pub ends_more : (bytes : List ℕ) (rows : List Row) (i : ℕ) (d : Row) (old new : Ends) → i < length rows → HasEnds bytes (take i rows) old →
    ends_have new (row_key bytes (get_or rows i d)) ≡ true → ((q : List ℕ) → ends_have old q ≡ true → ends_have new q ≡ true) → HasEnds bytes (take (i + 1) rows) new
ends_more bytes rows i d old new lt h here kept =
    let P : Ends → Row → Type 0 = λ e r. ends_have e (row_key bytes r) ≡ true in
    record { all = All-more (P new) rows i d lt (All-weaker (P old) (P new) (λ r. kept (row_key bytes r)) (take i rows) h.all) here }
