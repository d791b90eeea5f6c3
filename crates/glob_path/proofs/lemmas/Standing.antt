-- What a tree that is being made stands for, node by node.
use Rattle.std.proofs.Common.{◌≡◌, ℕ, suc, ◌+◌, ◌<◌, ◌≤◌, ◌==◌, Bool, true, false, cond, List, [], ◌∷◌, ◌++◌, Option, Some, None, length, map, refl, sym, ap, subst, ◌∙◌, arith, ⊎_elim, append-nil, append_assoc, length-append}
use Rattle.std.specs.Prelude.{slice_range}
use Rattle.std.specs.List.Sorted.{IsStrictlyIncreasing}
use Rattle.std.proofs.lemmas.Bool.{cases_lt}
use Rattle.std.proofs.lemmas.List.{get_or_append_left, get_or-append-add, map-append, length-map}
use Rattle.glob_path.specs.Entries.{Entry, indexes_under}
use Rattle.glob_path.specs.declared.trie.Text.{Text}
use Rattle.glob_path.specs.declared.tree.Node.{Node}
use Rattle.glob_path.specs.declared.tree.Tree.{Tree}
use Rattle.glob_path.specs.declared.tree.Span.{Span}
use Rattle.glob_path.specs.Texts.{entry_of}
use Rattle.glob_path.specs.inner.Nodes.{place_in, node_of, run_of, run_at, held_of, child_of, follow, after_run, past, under, under_rest, node_count, IsNode, IsTree}
use Rattle.glob_path.specs.inner.Building.{rests_of, AreWithin, AreSpans, picked, IsAdded, lists_at, IsSound, Stands}
use Rattle.glob_path.proofs.lemmas.Ranges.{range_left, range_right, range_long}
use Rattle.glob_path.proofs.lemmas.Runs.{past_byte}
use Rattle.glob_path.proofs.lemmas.Walks.{some_same}

-- a place is in the list
place_within : (xs : List ℕ) (c b k : ℕ) → place_in xs c b ≡ Some k → k < c + length xs
place_within [] c b k e = cc
place_within (x ∷ xs) c b k e =
    by_test (x == b) c (place_in xs (c + 1) b) k (length xs) (λ d. omega (arith, place_within xs (c + 1) b k d)) e
  where
    by_test : (p : Bool) (c : ℕ) (o : Option ℕ) (k n : ℕ) → (o ≡ Some k → k < c + suc n) → cond p (Some c) o ≡ Some k → k < c + suc n
    by_test true c o k n f e = omega (arith, number c k e)
      where
        number : (c k : ℕ) → Some c ≡ Some k → c ≡ k
        number c k e = some_same c k e
    by_test false c o k n f e = f e

follow_same : (o : Option ℕ) (f g : ℕ → List ℕ) → ((c : ℕ) → o ≡ Some c → f c ≡ g c) → follow o f ≡ follow o g
follow_same None f g h = refl
follow_same (Some c) f g h = h c refl

follow_if : (p : Bool) (c : ℕ) (o : Option ℕ) (f : ℕ → List ℕ) → follow (cond p (Some c) o) f ≡ cond p (f c) (follow o f)
follow_if true c o f = refl
follow_if false c o f = refl

-- the children of a new node, whose lists come after those that are there
picked_follow : (texts : List Text) (bs : List ℕ) (ss : List Span) (g : List (List Entry)) (k b : ℕ) (w : List ℕ) → length bs ≡ length ss → k ≡ length g →
    follow (place_in bs k b) (λ c. indexes_under (lists_at (g ++ map (rests_of texts) ss) c) w) ≡ picked texts bs ss b w
picked_follow texts [] ss g k b w n m = refl
picked_follow texts (x ∷ bs) [] g k b w n m = absurd (omega arith)
picked_follow texts (x ∷ bs) (s ∷ ss) g k b w n m =
    let here = rests_of texts s in
    let others = map (rests_of texts) ss in
    let all = g ++ here ∷ others in
    let z : length g + 0 ≡ k = omega arith in
    let at : lists_at all k ≡ here = ap (λ i. lists_at all i) (sym z) ∙ get_or-append-add g (here ∷ others) 0 [] in
    let next : k + 1 ≡ length (g ++ here ∷ []) = omega (arith, length-append g (here ∷ [])) in
    follow_if (x == b) k (place_in bs (k + 1) b) (λ c. indexes_under (lists_at all c) w)
    ∙ ap (λ l. cond (x == b) (indexes_under l w) (follow (place_in bs (k + 1) b) (λ c. indexes_under (lists_at all c) w))) at
    ∙ ap (λ a. cond (x == b) (indexes_under here w) (follow (place_in bs (k + 1) b) (λ c. indexes_under (lists_at a c) w))) (sym (append_assoc g (here ∷ []) others))
    ∙ ap (cond (x == b) (indexes_under here w)) (picked_follow texts bs ss (g ++ here ∷ []) (k + 1) b w (omega arith) next)

-- one more node: the old ones stand for what they stood for
module _ (ns : List Node) (runs rs bytes bs indexes : List ℕ) (n : Node) (afters : List (List Entry)) (after : List Entry) (g cs : List (List Entry)) where
  old_node : (s : ℕ) → s < length ns → node_of (ns ++ n ∷ []) s ≡ node_of ns s
  old_node s l = get_or_append_left ns (n ∷ []) _ s l

  old_list : (c : ℕ) → c < length g → lists_at (g ++ cs) c ≡ lists_at g c
  old_list c l = get_or_append_left g cs [] c l

  old_after : (s : ℕ) → s < length afters → lists_at (afters ++ after ∷ []) s ≡ lists_at afters s
  old_after s l = get_or_append_left afters (after ∷ []) [] s l

  old_is : IsSound ns runs bytes indexes afters g → (s : ℕ) → s < length ns → IsNode (runs ++ rs) (bytes ++ bs) indexes (node_of (ns ++ n ∷ []) s)
  old_is h s l =
      let m = h.nodes s l in
      subst (IsNode (runs ++ rs) (bytes ++ bs) indexes) (sym (old_node s l)) (record {
        run = m.run;
        run_end = omega (arith, m.run_end, length-append runs rs);
        edges = m.edges;
        edges_end = omega (arith, m.edges_end, length-append bytes bs);
        indexes = m.indexes;
        indexes_end = m.indexes_end;
        rising = subst IsStrictlyIncreasing (sym (range_left bytes bs (node_of ns s).edges (node_of ns s).edges_end m.edges m.edges_end)) m.rising;
      })

  old_shared : length ns < length g → length afters ≡ length ns → IsSound ns runs bytes indexes afters g → (s : ℕ) (w : List ℕ) → s < length ns →
      indexes_under (lists_at (g ++ cs) s) w ≡ past (run_of (ns ++ n ∷ []) (runs ++ rs) s) (indexes_under (lists_at (afters ++ after ∷ []) s)) w
  old_shared more paired h s w l =
      let m = h.nodes s l in
      let k = node_of ns s in
      ap (λ x. indexes_under x w) (old_list s (omega arith))
      ∙ h.shared s w l
      ∙ ap (λ x. past (run_of ns runs s) (indexes_under x) w) (sym (old_after s (omega arith)))
      ∙ ap (λ r. past r (indexes_under (lists_at (afters ++ after ∷ []) s)) w) (sym (range_left runs rs k.run k.run_end m.run m.run_end))
      ∙ ap (λ m. past (slice_range (runs ++ rs) m.run m.run_end) (indexes_under (lists_at (afters ++ after ∷ []) s)) w) (sym (old_node s l))

  old_held : length afters ≡ length ns → IsSound ns runs bytes indexes afters g → (s : ℕ) → s < length ns → held_of (ns ++ n ∷ []) indexes s ≡ indexes_under (lists_at (afters ++ after ∷ []) s) []
  old_held paired h s l =
      ap (λ m. slice_range indexes m.indexes m.indexes_end) (old_node s l)
      ∙ h.held s l
      ∙ ap (λ e. indexes_under e []) (sym (old_after s (omega arith)))

  old_step : length ns < length g → length afters ≡ length ns → IsSound ns runs bytes indexes afters g → (s b : ℕ) (w : List ℕ) → s < length ns →
      follow (child_of (ns ++ n ∷ []) (bytes ++ bs) s b) (λ c. indexes_under (lists_at (g ++ cs) c) w) ≡ indexes_under (lists_at (afters ++ after ∷ []) s) (b ∷ w)
  old_step more paired h s b w l =
      let m = h.nodes s l in
      let k = node_of ns s in
      ap (λ j. follow (place_in (slice_range (bytes ++ bs) j.edges j.edges_end) (j.edges + 1) b) (λ c. indexes_under (lists_at (g ++ cs) c) w)) (old_node s l)
      ∙ ap (λ r. follow (place_in r (k.edges + 1) b) (λ c. indexes_under (lists_at (g ++ cs) c) w)) (range_left bytes bs k.edges k.edges_end m.edges m.edges_end)
      ∙ follow_same (place_in (slice_range bytes k.edges k.edges_end) (k.edges + 1) b) (λ c. indexes_under (lists_at (g ++ cs) c) w) (λ c. indexes_under (lists_at g c) w)
      (λ c e. ap (λ x. indexes_under x w)
      (old_list c (omega (arith, place_within (slice_range bytes k.edges k.edges_end) (k.edges + 1) b c e, m.edges, m.edges_end, h.total, range_long bytes k.edges k.edges_end m.edges m.edges_end))))
      ∙ h.step s b w l
      ∙ ap (λ x. indexes_under x (b ∷ w)) (sym (old_after s (omega arith)))

-- one more node, which stands for the list of a span
module _ (texts : List Text) (d : ℕ) (s : Span) (old new : Tree) (next_old next_new : List Span) where
  added_total : (g : List (List Entry)) (a : IsAdded texts d s old new next_old next_new) → length old.bytes.items + 1 ≡ length g →
      length new.bytes.items + 1 ≡ length (g ++ map (rests_of texts) a.spans)
  added_total g a e =
      omega (arith, ap length a.new_bytes, length-append old.bytes.items a.bytes, length-append g (map (rests_of texts) a.spans), length-map a.spans (rests_of texts), a.split.len, e)

  new_is : (a : IsAdded texts d s old new next_old next_new) → length old.indexes.items ≡ length texts → IsNode (old.runs.items ++ a.run) (old.bytes.items ++ a.bytes) old.indexes.items a.node
  new_is a e = record {
    run = omega (arith, a.run_start, a.run_end);
    run_end = omega (arith, a.run_end, length-append old.runs.items a.run);
    edges = omega (arith, a.edges, a.edges_end);
    edges_end = omega (arith, a.edges_end, length-append old.bytes.items a.bytes);
    indexes = a.indexes;
    indexes_end = omega (arith, a.indexes_end, e);
    rising = subst IsStrictlyIncreasing (sym (range_right old.bytes.items a.bytes a.node.edges a.node.edges_end a.edges a.edges_end)) a.split.rising;
  }

  new_shared : (a : IsAdded texts d s old new next_old next_new) → (w : List ℕ) →
      indexes_under (rests_of texts s) w ≡ past (slice_range (old.runs.items ++ a.run) a.node.run a.node.run_end) (indexes_under (rests_of texts a.after)) w
  new_shared a w =
      a.shared w ∙ ap (λ r. past r (indexes_under (rests_of texts a.after)) w) (sym (range_right old.runs.items a.run a.node.run a.node.run_end a.run_start a.run_end))

  new_step : (g : List (List Entry)) (a : IsAdded texts d s old new next_old next_new) → length old.bytes.items + 1 ≡ length g → (b : ℕ) (w : List ℕ) →
      follow (place_in (slice_range (old.bytes.items ++ a.bytes) a.node.edges a.node.edges_end) (a.node.edges + 1) b) (λ c. indexes_under (lists_at (g ++ map (rests_of texts) a.spans) c) w) ≡ indexes_under (rests_of texts a.after) (b ∷ w)
  new_step g a e b w =
      ap (λ r. follow (place_in r (a.node.edges + 1) b) (λ c. indexes_under (lists_at (g ++ map (rests_of texts) a.spans) c) w)) (range_right old.bytes.items a.bytes a.node.edges a.node.edges_end a.edges a.edges_end)
      ∙ picked_follow texts a.bytes a.spans g (a.node.edges + 1) b w a.split.len (omega (arith, a.edges, e))
      ∙ a.split.picks b w

-- the last node
last_node : (ns : List Node) (n : Node) (s : ℕ) → s ≡ length ns → node_of (ns ++ n ∷ []) s ≡ n
last_node ns n s e =
    let z : s ≡ length ns + 0 = omega arith in
    ap (λ i. node_of (ns ++ n ∷ []) i) z ∙ get_or-append-add ns (n ∷ []) 0 _

-- the list after its run
last_after : (afters : List (List Entry)) (after : List Entry) (s : ℕ) → s ≡ length afters → lists_at (afters ++ after ∷ []) s ≡ after
last_after afters after s e =
    let z : s ≡ length afters + 0 = omega arith in
    ap (λ i. lists_at (afters ++ after ∷ []) i) z ∙ get_or-append-add afters (after ∷ []) 0 []

-- the first pending list
first_pending : (done : List (List Entry)) (l : List Entry) (ls cs : List (List Entry)) (s : ℕ) → s ≡ length done → lists_at ((done ++ l ∷ ls) ++ cs) s ≡ l
first_pending done l ls cs s e =
    let z : s ≡ length done + 0 = omega arith in
    ap (λ i. lists_at ((done ++ l ∷ ls) ++ cs) i) z
    ∙ ap (λ g. lists_at g (length done + 0)) (append_assoc done (l ∷ ls) cs)
    ∙ get_or-append-add done (l ∷ (ls ++ cs)) 0 []

-- each node, the old ones and the last
each_node : (P : ℕ → Type 0) (n : ℕ) → ((s : ℕ) → s < n → P s) → ((s : ℕ) → s ≡ n → P s) → (s : ℕ) → s < n + 1 → P s
each_node P n f g s l = ⊎_elim (λ (a : s < n). f s a) (λ (a : n ≤ s). g s (omega arith)) (cases_lt s n)

sound_more : (texts : List Text) (d : ℕ) (p : Span) (old new : Tree) (next_old next_new : List Span) (afters done ls : List (List Entry)) →
    (a : IsAdded texts d p old new next_old next_new) → length done ≡ length old.nodes.items → length afters ≡ length old.nodes.items → old.indexes.items ≡ map (λ t. t.index) texts →
    IsSound old.nodes.items old.runs.items old.bytes.items old.indexes.items afters (done ++ rests_of texts p ∷ ls) →
    IsSound (old.nodes.items ++ a.node ∷ []) (old.runs.items ++ a.run) (old.bytes.items ++ a.bytes) old.indexes.items (afters ++ rests_of texts a.after ∷ []) ((done ++ rests_of texts p ∷ ls) ++ map (rests_of texts) a.spans)
sound_more texts d p old new next_old next_new afters done ls a counted paired same h =
    let ns = old.nodes.items in
    let here = rests_of texts p in
    let after = rests_of texts a.after in
    let fs = afters ++ after ∷ [] in
    let g = done ++ here ∷ ls in
    let cs = map (rests_of texts) a.spans in
    let runs = old.runs.items ++ a.run in
    let bytes = old.bytes.items ++ a.bytes in
    let more : length ns < length g = omega (arith, length-append done (here ∷ ls), counted) in
    let len : length (ns ++ a.node ∷ []) ≡ length ns + 1 = length-append ns (a.node ∷ []) in
    let long : length old.indexes.items ≡ length texts = ap length same ∙ length-map texts (λ t. t.index) in
    record {
      nodes = λ s l. each_node (λ s. IsNode runs bytes old.indexes.items (node_of (ns ++ a.node ∷ []) s)) (length ns)
          (old_is ns old.runs.items a.run old.bytes.items a.bytes old.indexes.items a.node afters after g cs h)
          (λ s e. subst (IsNode runs bytes old.indexes.items) (sym (last_node ns a.node s e)) (new_is texts d p old new next_old next_new a long))
          s (omega (arith, len));
      shared = λ s w l. each_node (λ s. indexes_under (lists_at (g ++ cs) s) w ≡ past (run_of (ns ++ a.node ∷ []) runs s) (indexes_under (lists_at fs s)) w) (length ns)
          (λ s l. old_shared ns old.runs.items a.run old.bytes.items a.bytes old.indexes.items a.node afters after g cs more paired h s w l)
          (λ s e. ap (λ x. indexes_under x w) (first_pending done here ls cs s (omega (arith, counted)))
          ∙ new_shared texts d p old new next_old next_new a w
          ∙ ap (λ x. past (slice_range runs a.node.run a.node.run_end) (indexes_under x) w) (sym (last_after afters after s (omega (arith, paired))))
          ∙ ap (λ m. past (slice_range runs m.run m.run_end) (indexes_under (lists_at fs s)) w) (sym (last_node ns a.node s e)))
          s (omega (arith, len));
      held = λ s l. each_node (λ s. held_of (ns ++ a.node ∷ []) old.indexes.items s ≡ indexes_under (lists_at fs s) []) (length ns)
          (old_held ns old.runs.items a.run old.bytes.items a.bytes old.indexes.items a.node afters after g cs paired h)
          (λ s e. ap (λ m. slice_range old.indexes.items m.indexes m.indexes_end) (last_node ns a.node s e)
          ∙ ap (λ x. slice_range x a.node.indexes a.node.indexes_end) same
          ∙ a.held
          ∙ ap (λ x. indexes_under x []) (sym (last_after afters after s (omega (arith, paired)))))
          s (omega (arith, len));
      step = λ s b w l. each_node (λ s. follow (child_of (ns ++ a.node ∷ []) bytes s b) (λ c. indexes_under (lists_at (g ++ cs) c) w) ≡ indexes_under (lists_at fs s) (b ∷ w)) (length ns)
          (λ s l. old_step ns old.runs.items a.run old.bytes.items a.bytes old.indexes.items a.node afters after g cs more paired h s b w l)
          (λ s e. ap (λ j. follow (place_in (slice_range bytes j.edges j.edges_end) (j.edges + 1) b) (λ c. indexes_under (lists_at (g ++ cs) c) w)) (last_node ns a.node s e)
          ∙ new_step texts d p old new next_old next_new g a h.total b w
          ∙ ap (λ x. indexes_under x (b ∷ w)) (sym (last_after afters after s (omega (arith, paired)))))
          s (omega (arith, len));
      total = omega (arith, added_total texts d p old new next_old next_new g a h.total, ap length a.new_bytes);
    }

rearranged : (done : List (List Entry)) (l : List Entry) (ls cs : List (List Entry)) → (done ++ l ∷ []) ++ (ls ++ cs) ≡ (done ++ l ∷ ls) ++ cs
rearranged done l ls cs = append_assoc done (l ∷ []) (ls ++ cs) ∙ sym (append_assoc done (l ∷ ls) cs)

first_stays : (g cs : List (List Entry)) (n : ℕ) → n + 1 ≡ length g → lists_at (g ++ cs) 0 ≡ lists_at g 0
first_stays g cs n e = get_or_append_left g cs [] 0 (omega arith)

-- after a node is added for the first of the pending lists
pub stands_more : (texts : List Text) (d : ℕ) (p : Span) (old new : Tree) (next_old next_new : List Span) (ls : List (List Entry)) →
    IsAdded texts d p old new next_old next_new → Stands texts old (rests_of texts p ∷ (ls ++ map (rests_of texts) next_old)) →
    Stands texts new (ls ++ map (rests_of texts) next_new)
stands_more texts d p old new next_old next_new ls a h =
    let here = rests_of texts p in
    let f = rests_of texts in
    let fs = h.afters ++ f a.after ∷ [] in
    let was = ls ++ map f next_old in
    let cs = map f a.spans in
    let pending : ls ++ map f next_new ≡ was ++ cs =
    ap (λ x. ls ++ map f x) a.new_spans ∙ ap (λ x. ls ++ x) (map-append f next_old a.spans) ∙ sym (append_assoc ls (map f next_old) cs) in
    let all : (h.done ++ here ∷ []) ++ (ls ++ map f next_new) ≡ (h.done ++ here ∷ was) ++ cs =
    ap (λ x. (h.done ++ here ∷ []) ++ x) pending ∙ rearranged h.done here was cs in
    let sound = sound_more texts d p old new next_old next_new h.afters h.done was a h.counted h.paired h.indexes h.sound in
    let ns = old.nodes.items ++ a.node ∷ [] in
    let g = (h.done ++ here ∷ was) ++ cs in
    record {
      done = h.done ++ here ∷ [];
      afters = fs;
      counted = omega (arith, length-append h.done (here ∷ []), ap length a.new_nodes, length-append old.nodes.items (a.node ∷ []), h.counted);
      paired = omega (arith, length-append h.afters (f a.after ∷ []), ap length a.new_nodes, length-append old.nodes.items (a.node ∷ []), h.paired);
      indexes = a.new_indexes ∙ h.indexes;
      root = ap (λ g. lists_at g 0) all ∙ first_stays (h.done ++ here ∷ was) cs (length old.bytes.items) h.sound.total ∙ h.root;
      sound = subst (λ g. IsSound new.nodes.items new.runs.items new.bytes.items new.indexes.items fs g) (sym all)
          (subst (λ ns. IsSound ns new.runs.items new.bytes.items new.indexes.items fs g) (sym a.new_nodes)
          (subst (λ rs. IsSound ns rs new.bytes.items new.indexes.items fs g) (sym a.new_runs)
          (subst (λ bs. IsSound ns (old.runs.items ++ a.run) bs new.indexes.items fs g) (sym a.new_bytes)
          (subst (λ is. IsSound ns (old.runs.items ++ a.run) (old.bytes.items ++ a.bytes) is fs g) (sym a.new_indexes) sound))));
    }

-- where no list is pending, all texts are found from the root
module _ (t : Tree) (fs g : List (List Entry)) (h : IsSound t.nodes.items t.runs.items t.bytes.items t.indexes.items fs g) (n : length g ≡ node_count t) where
  rest_stood : (rs w : List ℕ) (s : ℕ) → s < node_count t → under_rest t s rs w ≡ past rs (indexes_under (lists_at fs s)) w
  rest_stood [] [] s l = h.held s l
  rest_stood [] (b ∷ w) s l =
      let m = h.nodes s l in
      let k = node_of t.nodes.items s in
      let near : (c : ℕ) → child_of t.nodes.items t.bytes.items s b ≡ Some c → c < node_count t =
      λ c e. omega (arith, place_within (slice_range t.bytes.items k.edges k.edges_end) (k.edges + 1) b c e, m.edges, m.edges_end, h.total, n, range_long t.bytes.items k.edges k.edges_end m.edges m.edges_end) in
      follow_same (child_of t.nodes.items t.bytes.items s b) (λ c. under_rest t c (run_at t c) w) (λ c. indexes_under (lists_at g c) w)
      (λ c e. rest_stood (run_at t c) w c (near c e) ∙ sym (h.shared c w (near c e)))
      ∙ h.step s b w l
  rest_stood (r ∷ rs) [] s l = refl
  rest_stood (r ∷ rs) (b ∷ w) s l = past_byte (r == b) (after_run rs w) (indexes_under (lists_at fs s)) (under_rest t s rs w) (rest_stood rs w s l)

  under_stood : (w : List ℕ) (s : ℕ) → s < node_count t → under t s w ≡ indexes_under (lists_at g s) w
  under_stood w s l = rest_stood (run_at t s) w s l ∙ sym (h.shared s w l)

pub tree_stands : (texts : List Text) (t : Tree) → Stands texts t [] → IsTree t × ((w : List ℕ) → under t 0 w ≡ indexes_under (map entry_of texts) w)
tree_stands texts t h =
    let g = h.done ++ [] in
    let n : length g ≡ node_count t = ap length (append-nil h.done) ∙ h.counted in (
      record { nodes = h.sound.nodes; edges = h.sound.total ∙ n },
      λ w. under_stood t h.afters g h.sound n w 0 (omega (arith, h.sound.total, n)) ∙ ap (λ l. indexes_under l w) h.root,
    )

-- nothing but the items of a tree counts
same_stands : (texts : List Text) (t u : Tree) (pending : List (List Entry)) → u.nodes.items ≡ t.nodes.items → u.runs.items ≡ t.runs.items → u.bytes.items ≡ t.bytes.items
    → u.indexes.items ≡ t.indexes.items → Stands texts t pending → Stands texts u pending
same_stands texts t u pending nodes runs bytes indexes h = record {
  done = h.done;
  afters = h.afters;
  counted = h.counted ∙ ap length (sym nodes);
  paired = h.paired ∙ ap length (sym nodes);
  indexes = indexes ∙ h.indexes;
  root = h.root;
  sound = subst (λ ns. IsSound ns u.runs.items u.bytes.items u.indexes.items h.afters (h.done ++ pending)) (sym nodes)
      (subst (λ rs. IsSound t.nodes.items rs u.bytes.items u.indexes.items h.afters (h.done ++ pending)) (sym runs)
      (subst (λ bs. IsSound t.nodes.items t.runs.items bs u.indexes.items h.afters (h.done ++ pending)) (sym bytes)
      (subst (λ is. IsSound t.nodes.items t.runs.items t.bytes.items is h.afters (h.done ++ pending)) (sym indexes) h.sound)));
}

-- past the longest text no span is left
pub none_left : (texts : List Text) (longest d : ℕ) (ss : List Span) → AreWithin longest texts → longest < d → AreSpans texts d ss → ss ≡ []
none_left texts longest d [] w l h = refl
none_left texts longest d (s ∷ ss) w l h = absurd (omega (arith, h.0.deep longest w, h.0.late))

-- so the tree is finished, in whatever memory its items are
pub finished : (texts : List Text) (longest d : ℕ) (level : List Span) (t u : Tree) → AreWithin longest texts → longest < d → AreSpans texts d level → Stands texts t (map (rests_of texts) level)
    → u.nodes.items ≡ t.nodes.items → u.runs.items ≡ t.runs.items → u.bytes.items ≡ t.bytes.items → u.indexes.items ≡ t.indexes.items
    → IsTree u × ((w : List ℕ) → under u 0 w ≡ indexes_under (map entry_of texts) w)
finished texts longest d level t u within past spans stands nodes runs bytes indexes =
    tree_stands texts u (same_stands texts t u [] nodes runs bytes indexes (subst (λ ss. Stands texts t (map (rests_of texts) ss)) (none_left texts longest d level within past spans) stands))
