use Rattle.std.proofs.Common.{◌≡◌, ℕ, ◌+◌, ◌<◌, ◌⊎◌, ◌∷◌, [], inl, inr, IsTrue, drop, length, slice_index, replicate, length-set, get_or, refl, subst, arith, ◌∙◌}
use Rattle.std.proofs.lemmas.Bool.{cases_lt, eqb-true}
use Rattle.std.specs.Prelude.{◌↔◌}
use Rattle.std.proofs.lemmas.List.{drop_more, drop_all, get_or-replicate, get_or_past}
use Rattle.std.proofs.Math.Logic.{⊎_elim}
use Rattle.bit_sets.specs.Indexes.{has_index}
use Rattle.byte_nfa.proofs.lemmas.Pass.{iff_trans, iff_sym}
use Rattle.byte_nfa.specs.EarlyMatches.{half, FindsBy}
use Rattle.lazy_dfa.specs.inner.Rows.{AcceptsRow, IsAt}
use Rattle.lazy_dfa.proofs.lemmas.Ends.{all_found, found_listed}
use Rattle.byte_nfa.proofs.lemmas.Finding.{iff_beside, at_quiet, at_dead, told_found}
use Rattle.lazy_dfa.proofs.lemmas.Rows.{one_row, one_written}
use Rattle.lazy_dfa.proofs.rows.Rows.find_from.Goals as goal
use Rattle.lazy_dfa.proofs.rows.Rows.find_from.Goals.{in-Some, in_default+in-Some-told_step+in-Some-next+then-not-is_told+else-count-indexes, in_default+in-Some-told_step+in-Some-next+else-not-is_told}

-- no place is remembered in zeros
none_told : (s p : ℕ) → slice_index (replicate 16 0) s ≡ p + 1 → ⊥
none_told s p is = ⊎_elim {C = ⊥}
    (λ low. absurd (omega (arith, get_or-replicate {A = ℕ} 16 s 0 0 low, is)))
    (λ high. absurd (omega (arith, get_or_past {X = ℕ} (replicate 16 0) s 0 (omega (arith, high)), is)))
    (cases_lt s 16)

pub loop-byte-init : goal.loop-byte-init
loop-byte-init c =
    let d = c.args.dfa.now in
    let m = d.run in
    let rows = c.args.self.now in
    let (j, at) = c.requires.row in
    record {
      at = refl;
      room = refl;
      kept = λ k h. h;
      runs = (
        j,
        at,
        λ i at' k. subst (λ r. (FindsBy (half m) (AcceptsRow m rows j) c.args.text.now k ⊎ IsTrue (has_index c.args.found.now k)) ↔ (FindsBy (half m) (AcceptsRow m rows r) c.args.text.now k ⊎ IsTrue (has_index c.args.found.now k)))
            (one_row d rows j i c.args.place at at') (λ h. h, λ h. h),
      );
      slots = refl;
      told = λ s p is. absurd (none_told s p is);
      count = λ j' lt lt'. absurd (omega (arith, lt));
      visits = omega arith;
      counted = omega arith;
    }

pub told_step-requires-clause-told : goal.told_step-requires-clause-told
told_step-requires-clause-told c = λ on i at. c.loop-byte.invariant.told c.slot_of-slot.result c.loop-byte.place (eqb-true _ _ on) i at

pub returns-then-count-indexes-clause-found : goal.returns-then-count-indexes-clause-found
returns-then-count-indexes-clause-found c = λ i at k.
    let d = c.args.dfa.now in
    let m = d.run in
    let rows = c.args.self.now in
    let text = c.args.text.now in
    let l = c.loop-byte in
    let inv = l.invariant in
    let n = l.byte-index in
    let lt : n < length text = c.loop-byte-test.true in
    let b : ℕ = get_or text n 0 in
    let rest = drop (n + 1) text in
    let more : drop n text ≡ b ∷ rest = drop_more text n 0 lt in
    let (j, there, runs) = inv.runs in
    let told = rw c.in-Some-told_step.is at c.told_step.ensures.step j there in
    let (next, there', goes) = rw c.in-Some-next.is at told.known.next in
    let so_far = told_found (half m) (AcceptsRow m rows j) (AcceptsRow m rows next) b goes rest k (has_index l.found k) (has_index c.told_step.new.found k) _ (told.told k) (rw more at runs i at k) in (
      λ h. so_far.0 (inr h),
      ⊎_elim {C = IsTrue (has_index c.told_step.new.found k)}
          (λ f. all_found c.indexes-indexes.result.now c.found_count-count.result c.told_step.new.found c.found_count-count.ensures c.if-count-indexes.true k (found_listed m rows i c.indexes-indexes.result.now c.indexes-indexes.ensures text k f))
          (λ old. (told.told k).1 (inr (inv.kept k old))),
    )

pub returns-in_default-next-clause-found : goal.returns-in_default-next-clause-found
returns-in_default-next-clause-found c = λ i at k.
    let d = c.args.dfa.now in
    let m = d.run in
    let rows = c.args.self.now in
    let text = c.args.text.now in
    let l = c.loop-byte in
    let n = l.byte-index in
    let lt : n < length text = c.loop-byte-test.true in
    let b : ℕ = get_or text n 0 in
    let rest = drop (n + 1) text in
    let more : drop n text ≡ b ∷ rest = drop_more text n 0 lt in
    let (j, there, runs) = l.invariant.runs in
    let told = rw c.in-Some-told_step.is at c.told_step.ensures.step j there in
    let dead = rw c.in_default-next.is at told.known.next in
    iff_trans (told.told k) (iff_trans (iff_beside (iff_sym (at_dead (half m) (AcceptsRow m rows j) b dead rest k))) (rw more at runs i at k))

pub returns-in_default-told_step-clause-found : goal.returns-in_default-told_step-clause-found
returns-in_default-told_step-clause-found c = λ i at.
    let inv = c.loop-byte.invariant in
    let (j, there, runs) = inv.runs in
    let same = rw c.in_default-told_step.is at c.told_step.ensures.step j there in
    record {
      within = omega (arith, inv.at, c.loop-byte-test.true);
      row = (j, there, rw (inv.at, same) (runs i at));
    }

pub loop-byte-preserved : goal.loop-byte-preserved
loop-byte-preserved c =
    let d = c.args.dfa.now in
    let m = d.run in
    let rows = c.args.self.now in
    let text = c.args.text.now in
    let l = c.loop-byte in
    let inv = l.invariant in
    let n = l.byte-index in
    let lt : n < length text = c.loop-byte-test.true in
    let b : ℕ = get_or text n 0 in
    let rest = drop (n + 1) text in
    let more : drop n text ≡ b ∷ rest = drop_more text n 0 lt in
    let (j, there, runs) = inv.runs in
    elim c.match-plain_next.branch [
      | in-Some w ↦
          let (quiet, (next, there', goes)) = rw w.in-Some.is at c.plain_next.ensures.next j there in
          rw (w.found-is, w.place-is, w.told-is, w.count-is, w.visits-is) record {
            at = omega (arith, inv.at);
            room = inv.room;
            kept = inv.kept;
            runs = (next, there', λ i at k. iff_trans (iff_beside (at_quiet (half m) (AcceptsRow m rows j) (AcceptsRow m rows next) b goes (λ d low a. quiet (d, low, a)) rest k)) (rw more at runs i at k));
            slots = inv.slots;
            told = inv.told;
            count = inv.count;
            visits = omega (arith, w.in-Some.ensures.visits, inv.visits);
            counted = omega (arith, w.in-Some.ensures.visits, inv.counted);
          }
      | in_default+in-Some-told_step+in-Some-next+then-not-is_told+else-count-indexes w ↦
          let told = rw w.in-Some-told_step.is at w.told_step.ensures.step j there in
          let (next, there', goes) = rw w.in-Some-next.is at told.known.next in
          rw (w.found-is, w.place-is, w.told-is, w.count-is, w.visits-is) record {
            at = omega (arith, inv.at);
            room = w.told_step.ensures.room ∙ inv.room;
            kept = λ k h. (told.told k).1 (inr (inv.kept k h));
            runs = (
              next,
              there',
              λ i at k. told_found (half m) (AcceptsRow m rows j) (AcceptsRow m rows next) b goes rest k (has_index l.found k) (has_index w.told_step.new.found k) _ (told.told k) (rw more at runs i at k),
            );
            slots = length-set l.told w.slot_of-slot.result (l.place + 1) ∙ inv.slots;
            told = λ s p is j' at' k low a. ⊎_elim {C = IsTrue (has_index w.told_step.new.found k)}
                (λ here. let same : p ≡ l.place = omega (arith, here) in
                ((rw w.in-Some-told_step.is at w.told_step.ensures.step j' (subst (IsAt d rows j') same at')).told k).1 (inl (low, a)))
                (λ before. (told.told k).1 (inr (inv.told s p before j' at' k low a)))
                (one_written l.told w.slot_of-slot.result (l.place + 1) s (p + 1) (omega (arith, inv.slots, w.slot_of-slot.ensures)) is);
            count = w.found_count-count.ensures;
            visits = omega (arith, w.in-Some-told_step.ensures.visits, w.in_default.ensures.visits, inv.visits);
            counted = omega (arith, w.in-Some-told_step.ensures.visits, w.in_default.ensures.visits, inv.counted);
          }
      | in_default+in-Some-told_step+in-Some-next+else-not-is_told w ↦
          let told = rw w.in-Some-told_step.is at w.told_step.ensures.step j there in
          let (next, there', goes) = rw w.in-Some-next.is at told.known.next in
          rw (w.found-is, w.place-is, w.told-is, w.count-is, w.visits-is) record {
            at = omega (arith, inv.at);
            room = w.told_step.ensures.room ∙ inv.room;
            kept = λ k h. (told.told k).1 (inr (inv.kept k h));
            runs = (
              next,
              there',
              λ i at k. told_found (half m) (AcceptsRow m rows j) (AcceptsRow m rows next) b goes rest k (has_index l.found k) (has_index w.told_step.new.found k) _ (told.told k) (rw more at runs i at k),
            );
            slots = inv.slots;
            told = λ s p is j' at' k low a. (told.told k).1 (inr (inv.told s p is j' at' k low a));
            count = λ d lt' lt''. (told.told _).1 (inr (inv.count d lt' lt''));
            visits = omega (arith, w.in-Some-told_step.ensures.visits, w.in_default.ensures.visits, inv.visits);
            counted = omega (arith, w.in-Some-told_step.ensures.visits, w.in_default.ensures.visits, inv.counted);
          }
    ]

pub returns-then-tell_known_end-clause-found : goal.returns-then-tell_known_end-clause-found
returns-then-tell_known_end-clause-found c = λ i at k.
    let l = c.loop-byte in
    let past : drop l.byte-index c.args.text.now ≡ [] = drop_all l.byte-index c.args.text.now c.loop-byte-test.false in
    let (j, there, runs) = l.invariant.runs in
    iff_trans (c.tell_known_end.ensures.found j there c.if-tell_known_end.true k) (rw past at runs i at k)

pub returns-clause-found : goal.returns-clause-found
returns-clause-found c = λ i at.
    let inv = c.loop-byte.invariant in
    let (j, there, runs) = inv.runs in
    let (same, _) = c.tell_known_end.ensures.none c.if-tell_known_end.false in
    record {
      within = omega (arith, inv.at, c.loop-byte.auto.byte-index-end);
      row = (j, there, rw (inv.at, same) (runs i at));
    }
