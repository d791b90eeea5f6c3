use Rattle.std.proofs.Common.{◌≡◌, ◌+◌, ℕ, suc, List, [], ◌∷◌, ◌++◌, drop, refl, ap, sym, subst, ◌∙◌, arith, append-nil}
use Rattle.std.proofs.lemmas.List.{drop_more, drop_all, append_assoc}
use Rattle.glob_relations.specs.inner.Automata.{IsFor, numbered}
use Rattle.glob_relations.proofs.compared.add_numbered.Goals as goal

pub loop-k-init : goal.loop-k-init
loop-k-init g c = record {
  index_count = refl;
  items = λ ys is. (ys, is, ap (λ (n : ℕ). ys ++ numbered n c.args.items.now) (omega arith));
}

pub loop-k-preserved : goal.loop-k-preserved
loop-k-preserved g c =
    let k = c.loop-k.k in
    let n : ℕ = c.args.first + k in
    let all : List g.row.T.Denot = c.args.items.now in
    let x : g.row.T.Denot = c.index-items-k.result in
    let one : suc n ≡ c.args.first + (k + 1) = omega arith in
    let more : drop k all ≡ x ∷ drop (k + 1) all = drop_more all k x c.loop-k-test.true ∙ ap (λ y. y ∷ drop (k + 1) all) (sym c.index-items-k.is) in
    let rest : numbered n (drop k all) ≡ (x, n) ∷ numbered (c.args.first + (k + 1)) (drop (k + 1) all) = ap (numbered n) more ∙ ap (λ j. (x, n) ∷ numbered j (drop (k + 1) all)) one in
    record {
      index_count = c.add_to.ensures.index_count ∙ c.loop-k.invariant.index_count;
      items = λ ys was.
          let (xs, is, same) = c.loop-k.invariant.items ys was in (
            xs ++ (x, n) ∷ [],
            c.in_ok-add_to.ensures.added xs is,
            append_assoc xs ((x, n) ∷ []) (numbered (c.args.first + (k + 1)) (drop (k + 1) all)) ∙ sym (ap (λ (l : List (g.row.T.Denot × ℕ)). xs ++ l) rest) ∙ same,
          );
    }

pub returns : goal.returns
returns g c = λ ys was.
    let (xs, is, same) = c.loop-k.invariant.items ys was in
    let k = c.loop-k.k in
    let all : List g.row.T.Denot = c.args.items.now in
    let past : drop k all ≡ [] = drop_all k all (omega arith) in
    let whole : xs ≡ ys ++ numbered c.args.first all = sym (append-nil xs) ∙ sym (ap (λ (l : List g.row.T.Denot). xs ++ numbered (c.args.first + k) l) past) ∙ same in
    subst (λ (l : List (g.row.T.Denot × ℕ)). IsFor (g.T.Compared.matches c.args.options) l c.loop-k.builder) whole is
