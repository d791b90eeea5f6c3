-- Bounds on visits, run by run. Numbers of reads are taken as they are: what they are made of plays no part.
use Rattle.std.proofs.Common.{◌≡◌, ℕ, ◌+◌, ◌*◌, ◌≤◌, arith}
use Rattle.std.proofs.lemmas.Nat.{mul-le}
use Rattle.set_matcher.specs.Visits.{visits_for}

-- a run over a text of m bytes by a reads, where a is b and m is n
same_bound : (n m a b now v : ℕ) → m ≡ n → a ≡ b → v ≤ now + (m + 1) * a → v ≤ now + (n + 1) * b
same_bound n m a b now v len is run = let le = mul-le (m + 1) a (n + 1) b (omega (arith, len)) (omega (arith, is)) in omega (arith, run, le)

-- the first two of three runs
pub two_runs : (n m k a a' b d now v w : ℕ) → m ≡ n → k ≡ n → a' ≡ a → v ≤ now + (m + 1) * a' → w ≤ v + (k + 1) * b → w ≤ now + (1 + (n + 1) * (a + (b + d)))
two_runs n m k a a' b d now v w first second is one two =
    let run = same_bound n m a' a now v first is one in
    let next = same_bound n k b b v w second (omega arith) two in
    let sum : (n + 1) * (a + (b + d)) ≡ (n + 1) * a + ((n + 1) * b + (n + 1) * d) = omega arith in
    omega (arith, run, next, sum)

-- all three, with a lookup before the last
pub three_runs : (n m k l a a' b d d' now v w x y : ℕ) → m ≡ n → k ≡ n → l ≡ n → a' ≡ a → d' ≡ d → v ≤ now + (m + 1) * a' → w ≤ v + (k + 1) * b → x ≤ w + 1
    → y ≤ x + (l + 1) * d' → y ≤ now + (1 + (n + 1) * (a + (b + d)))
three_runs n m k l a a' b d d' now v w x y first second third is last one two lookup three =
    let run = same_bound n m a' a now v first is one in
    let next = same_bound n k b b v w second (omega arith) two in
    let end = same_bound n l d' d x y third last three in
    let sum : (n + 1) * (a + (b + d)) ≡ (n + 1) * a + ((n + 1) * b + (n + 1) * d) = omega arith in
    omega (arith, run, next, lookup, end, sum)

-- a lookup before three runs over one text, of which the last may be missing
pub looked_runs : (n a b d now t v w x : ℕ) → t ≤ now + 1 → v ≤ t + (n + 1) * a → w ≤ v + (n + 1) * b → x ≤ w + (n + 1) * d → x ≤ now + (1 + (n + 1) * (a + (b + d)))
looked_runs n a b d now t v w x lookup one two three =
    let sum : (n + 1) * (a + (b + d)) ≡ (n + 1) * a + ((n + 1) * b + (n + 1) * d) = omega arith in
    omega (arith, lookup, one, two, three, sum)

-- automata, and keys before or after them
pub with_keys : (n m reads load now v : ℕ) → m ≡ n → reads ≤ load → v ≤ now + (3 + 2 * (n + 1)) + (1 + (m + 1) * reads) → v ≤ now + visits_for n load
with_keys n m reads load now v len le run = let more = mul-le (m + 1) reads (n + 1) load (omega (arith, len)) le in omega (arith, run, more)
