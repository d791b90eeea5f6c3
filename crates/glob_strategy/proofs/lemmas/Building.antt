-- States that are added to an automaton.
use Rattle.std.proofs.Common.{ℕ, Bool, List, [], ◌∷◌, ◌++◌, length, refl, sym, subst, arith}
use Rattle.glob_syntax.specs.declared.options.Options.{Options}
use Rattle.byte_nfa.specs.Steps.{State, bytes_state, union_state, NfaValue}
use Rattle.byte_nfa.specs.Building.{Grows, Keeps, Pushes}
use Rattle.byte_nfa.proofs.lemmas.Growing.{agrees_old, agrees_higher, grows_none, grows_then, grows_push}
use Rattle.bit_sets.specs.declared.byte_set.ByteSet.{ByteSet}
use Rattle.glob_syntax.specs.Characters.{is_between}
use Rattle.glob_syntax.specs.inner.CharacterRows.{continues, begins_three, is_ascii_wild}
use Rattle.glob_strategy.specs.inner.TokenStates.{is_letter, ReadsEach}
use Rattle.bit_sets.specs.Bytes.{IsSetOf}
use Rattle.glob_strategy.specs.inner.Building.{BuildsText, BuildsRow, BuildsCharacter}

-- ---- literals

-- one more byte, before the others
pub text_more : (o : Options) (b : ℕ) (bs : List ℕ) (old mid new : NfaValue) (w : ByteSet) (s t e : ℕ)
    → BuildsText o bs old.states mid.states t e → Keeps old.states mid.states → Pushes mid new s (bytes_state w t) → IsSetOf (is_letter o b) w → BuildsText o (b ∷ bs) old.states new.states s e
text_more o b bs old mid new w s t e rest kept p letter = λ a agrees.
    (t, (w, p.adds a (length old.states) kept.0 agrees, letter), rest a (agrees_old a mid.states new.states (length old.states) p.keeps agrees))

-- ---- rows of tests

-- one state
pub row_one : (test : ℕ → Bool) (old new : NfaValue) (w : ByteSet) (s e : ℕ) → Pushes old new s (bytes_state w e) → IsSetOf test w → BuildsRow (test ∷ []) old.states new.states s e
row_one test old new w s e p set = λ a agrees. (e, (w, p.adds a (length old.states) (omega arith) agrees, set), refl)

-- what is built stays built, and so does what is built later
pub row_within : (tests : List (ℕ → Bool)) (old low high new : NfaValue) (s e : ℕ)
    → Grows old low → Grows high new → BuildsRow tests low.states high.states s e → BuildsRow tests old.states new.states s e
row_within tests old low high new s e before after built = λ a agrees.
    built a (agrees_higher a high.states (length old.states) (length low.states) before.keeps.0 (agrees_old a high.states new.states (length old.states) after.keeps agrees))

-- one row, and then another
pub row_then : (a : List State) (us vs : List (ℕ → Bool)) (s t e : ℕ) → ReadsEach a s us t → ReadsEach a t vs e → ReadsEach a s (us ++ vs) e
row_then a [] vs s t e is rest = subst (λ x. ReadsEach a x vs e) (sym is) rest
row_then a (u ∷ us) vs s t e (x, read, more) rest = (x, read, row_then a us vs x t e more rest)

-- the states of a whole character: those of its last bytes, of first bytes by the length of the character, and one before them
pub character_built : (o : Options) (old lasts ascii_added pair_added threes fours new : NfaValue) (wa wp : ByteSet) (e one two three ascii pair low3 middle3 high3 low4 middle4 high4 s : ℕ)
    → Grows old lasts → BuildsRow (continues ∷ []) old.states lasts.states one e → BuildsRow (continues ∷ continues ∷ []) old.states lasts.states two e
    → BuildsRow (continues ∷ continues ∷ continues ∷ []) old.states lasts.states three e
    → Pushes lasts ascii_added ascii (bytes_state wa e) → IsSetOf (is_ascii_wild o) wa
    → Pushes ascii_added pair_added pair (bytes_state wp one) → IsSetOf (is_between (0xC2, 0xDF)) wp
    → Grows pair_added threes → BuildsRow (is_between (0xE0, 0xE0) ∷ is_between (0xA0, 0xBF) ∷ []) pair_added.states threes.states low3 one
    → BuildsRow (begins_three ∷ []) pair_added.states threes.states middle3 two → BuildsRow (is_between (0xED, 0xED) ∷ is_between (0x80, 0x9F) ∷ []) pair_added.states threes.states high3 one
    → Grows threes fours → BuildsRow (is_between (0xF0, 0xF0) ∷ is_between (0x90, 0xBF) ∷ []) threes.states fours.states low4 two
    → BuildsRow (is_between (0xF1, 0xF3) ∷ []) threes.states fours.states middle4 three → BuildsRow (is_between (0xF4, 0xF4) ∷ is_between (0x80, 0x8F) ∷ []) threes.states fours.states high4 two
    → Pushes fours new s (union_state (ascii ∷ pair ∷ low3 ∷ middle3 ∷ high3 ∷ low4 ∷ middle4 ∷ high4 ∷ []))
    → BuildsCharacter o old.states new.states s e
character_built o old lasts ascii_added pair_added threes fours new wa wp e one two three ascii pair low3 middle3 high3 low4 middle4 high4 s
    grows1 last1 last2 last3 push_ascii set_ascii push_pair set_pair grows3 l3 m3 h3 grows4 l4 m4 h4 push = λ a agrees.
    let from5 : Grows fours new = grows_push fours new s _ push in
    let from4 : Grows threes new = grows_then threes fours new grows4 from5 in
    let from3 : Grows pair_added new = grows_then pair_added threes new grows3 from4 in
    let from2 : Grows ascii_added new = grows_then ascii_added pair_added new (grows_push ascii_added pair_added pair _ push_pair) from3 in
    let from1 : Grows lasts new = grows_then lasts ascii_added new (grows_push lasts ascii_added ascii _ push_ascii) from2 in
    let to2 : Grows old ascii_added = grows_then old lasts ascii_added grows1 (grows_push lasts ascii_added ascii _ push_ascii) in
    let to3 : Grows old pair_added = grows_then old ascii_added pair_added to2 (grows_push ascii_added pair_added pair _ push_pair) in
    let to4 : Grows old threes = grows_then old pair_added threes to3 grows3 in
    let to5 : Grows old fours = grows_then old threes fours to4 grows4 in
    let none = grows_none old in
    let c1 = row_within (continues ∷ []) old old lasts new one e none from1 last1 a agrees in
    let c2 = row_within (continues ∷ continues ∷ []) old old lasts new two e none from1 last2 a agrees in
    let c3 = row_within (continues ∷ continues ∷ continues ∷ []) old old lasts new three e none from1 last3 a agrees in
    let r1 = row_within (is_ascii_wild o ∷ []) old lasts ascii_added new ascii e grows1 from2 (row_one (is_ascii_wild o) lasts ascii_added wa ascii e push_ascii set_ascii) a agrees in
    let r2 = row_within (is_between (0xC2, 0xDF) ∷ []) old ascii_added pair_added new pair one to2 from3 (row_one (is_between (0xC2, 0xDF)) ascii_added pair_added wp pair one push_pair set_pair) a agrees in
    let r3 = row_within (is_between (0xE0, 0xE0) ∷ is_between (0xA0, 0xBF) ∷ []) old pair_added threes new low3 one to3 from4 l3 a agrees in
    let r4 = row_within (begins_three ∷ []) old pair_added threes new middle3 two to3 from4 m3 a agrees in
    let r5 = row_within (is_between (0xED, 0xED) ∷ is_between (0x80, 0x9F) ∷ []) old pair_added threes new high3 one to3 from4 h3 a agrees in
    let r6 = row_within (is_between (0xF0, 0xF0) ∷ is_between (0x90, 0xBF) ∷ []) old threes fours new low4 two to4 from5 l4 a agrees in
    let r7 = row_within (is_between (0xF1, 0xF3) ∷ []) old threes fours new middle4 three to4 from5 m4 a agrees in
    let r8 = row_within (is_between (0xF4, 0xF4) ∷ is_between (0x80, 0x8F) ∷ []) old threes fours new high4 two to4 from5 h4 a agrees in (
      ascii ∷ pair ∷ low3 ∷ middle3 ∷ high3 ∷ low4 ∷ middle4 ∷ high4 ∷ [],
      push.adds a (length old.states) to5.keeps.0 agrees,
      (
        r1,
        (
          row_then a (is_between (0xC2, 0xDF) ∷ []) (continues ∷ []) pair one e r2 c1,
          (
            row_then a (is_between (0xE0, 0xE0) ∷ is_between (0xA0, 0xBF) ∷ []) (continues ∷ []) low3 one e r3 c1,
            (
              row_then a (begins_three ∷ []) (continues ∷ continues ∷ []) middle3 two e r4 c2,
              (
                row_then a (is_between (0xED, 0xED) ∷ is_between (0x80, 0x9F) ∷ []) (continues ∷ []) high3 one e r5 c1,
                (
                  row_then a (is_between (0xF0, 0xF0) ∷ is_between (0x90, 0xBF) ∷ []) (continues ∷ continues ∷ []) low4 two e r6 c2,
                  (
                    row_then a (is_between (0xF1, 0xF3) ∷ []) (continues ∷ continues ∷ continues ∷ []) middle4 three e r7 c3,
                    (row_then a (is_between (0xF4, 0xF4) ∷ is_between (0x80, 0x8F) ∷ []) (continues ∷ continues ∷ []) high4 two e r8 c2, tt),
                  ),
                ),
              ),
            ),
          ),
        ),
      ),
    )
