-- The steps of reading tokens, by the lexemes that are left.
use Rattle.std.proofs.Common.{◌≡◌, ℕ, zero, suc, ◌-◌, ◌<◌, List, [], ◌∷◌, ◌++◌, Bool, true, false, map, drop, length, arith, refl, sym, ap, subst, ◌∙◌}
use Rattle.std.proofs.lemmas.List.{nil_from_length}
use Rattle.glob_syntax.specs.Token.{Token, RecursivePrefix, none, branch}
use Rattle.glob_syntax.specs.Lexemes.{Lexeme, Char, One, Stars, Class, Open, Comma, Close}
use Rattle.glob_syntax.specs.Stars.{piece}
use Rattle.glob_syntax.specs.Reading.{Levels, in_level, levels, whole, is_whole_run, first_branch}
use Rattle.glob_syntax.specs.FlatTokens as flat
use Rattle.glob_syntax.specs.FlatTokens.{Flat, simple, opening, comma, closing, onto, levels_of, tree_of, IsNested}
use Rattle.glob_syntax.specs.inner.Nests.{Nests, is_inner}
use Rattle.glob_syntax.specs.inner.TokenReading.{Follows, ReadsTo}
use Rattle.glob_syntax.specs.inner.LexemeViews.{lexemes_of}
use Rattle.glob_syntax.specs.declared.lexemes.Lexeme as held
use Rattle.glob_syntax.proofs.lemmas.FlatTokens.{onto_append, onto_push, nests_append}
use Rattle.glob_syntax.proofs.lemmas.FlatTokens as flat_lemmas
use Rattle.glob_syntax.proofs.lemmas.Nesting.{nests_open, nests_comma, nests_close, nests_piece, nests_end}

-- ---- a piece

-- its tokens, and then some levels
in_level_nil : (l : Levels) → l ≡ in_level [] l
in_level_nil (none, more) = refl
in_level_nil (branch ts bs, more) = refl

in_level_cons : (t : Token) (ts : List Token) (l : Levels) → in_level (t ∷ []) (in_level ts l) ≡ in_level (t ∷ ts) l
in_level_cons t ts (none, more) = refl
in_level_cons t ts (branch us bs, more) = refl

onto_simples : (ts : List Token) (l : Levels) → onto (map simple ts) l ≡ in_level ts l
onto_simples [] l = in_level_nil l
onto_simples (t ∷ ts) l = ap (in_level (t ∷ [])) (onto_simples ts l) ∙ in_level_cons t ts l

-- they open and close no group
nests_simples : (ts : List Token) (n : ℕ) → flat.Nests n (map simple ts) n
nests_simples [] n = refl
nests_simples (t ∷ ts) n = nests_simples ts n

levels_skip : (n : ℕ) (start : Bool) (ms : List Lexeme) → levels n start ms ≡ levels zero start (drop n ms)
unfolding levels
levels_skip zero start ms = refl
levels_skip (suc n) start [] = refl
levels_skip (suc n) start (m ∷ ms) = levels_skip n start ms

levels_piece : (start : Bool) (m : Lexeme) (ms : List Lexeme) → is_inner m ≡ true → levels zero start (m ∷ ms) ≡ in_level (piece start m ms).0 (levels (piece start m ms).1 false ms)
unfolding levels
levels_piece start (Char e c) ms i = refl
levels_piece start One ms i = refl
levels_piece start (Stars n) ms i = refl
levels_piece start (Class negated rs) ms i = refl
levels_piece start m ms i = absurd (cc)

module _ (ts later : List Flat) (start : Bool) (ms : List Lexeme) where
  -- a lexeme that is no brace or comma, at the tokens and the length of its piece
  pub read_piece : (m : Lexeme) (more : ℕ) → is_inner m ≡ true → later ≡ ts ++ map simple (piece start m ms).0 → more ≡ (piece start m ms).1
      → Follows ts (m ∷ ms) → ReadsTo ts start (m ∷ ms) later false (drop more ms)
  read_piece m more i grown takes h =
      let p = piece start m ms in
      let nested : flat.Nests 0 later h.depth = subst (λ us. flat.Nests 0 us h.depth) (sym grown) (nests_append ts (map simple p.0) 0 h.depth h.depth h.opened (nests_simples p.0 h.depth)) in
      record {
        same = ap (λ (us : List Flat). onto us (levels zero false (drop more ms))) grown
            ∙ ap (λ (n : ℕ). onto (ts ++ map simple p.0) (levels zero false (drop n ms))) takes
            ∙ onto_append ts (map simple p.0) (levels zero false (drop p.1 ms))
            ∙ ap (onto ts) (onto_simples p.0 (levels zero false (drop p.1 ms)) ∙ ap (in_level p.0) (sym (levels_skip p.1 false ms)) ∙ sym (levels_piece start m ms i));
        follows = record {
          depth = h.depth;
          opened = nested;
          closed = subst (λ n. Nests h.depth (drop n ms)) (sym takes) (nests_piece h.depth start m ms i h.closed);
        };
      }

  -- ---- braces and commas

  pub read_open : later ≡ ts ++ opening ∷ [] → Follows ts (Open ∷ ms) → ReadsTo ts start (Open ∷ ms) later true ms
  unfolding levels
  read_open grown h = record {
    same = ap (λ (us : List Flat). onto us (levels zero true ms)) grown ∙ onto_push ts opening (levels zero true ms);
    follows = record {
      depth = suc h.depth;
      opened = subst (λ us. flat.Nests 0 us (suc h.depth)) (sym grown) (flat_lemmas.nests_open ts 0 h.depth h.opened);
      closed = nests_open h.depth ms h.closed;
    };
  }

  nests_comma_at : (d : ℕ) → 0 < d → flat.Nests 0 ts d → flat.Nests 0 (ts ++ comma ∷ []) d
  nests_comma_at zero some h = absurd (omega arith)
  nests_comma_at (suc d) some h = flat_lemmas.nests_comma ts 0 d h

  pub read_comma : later ≡ ts ++ comma ∷ [] → Follows ts (Comma ∷ ms) → ReadsTo ts start (Comma ∷ ms) later true ms
  unfolding levels
  read_comma grown h =
      let r = nests_comma h.depth ms h.closed in
      record {
        same = ap (λ (us : List Flat). onto us (levels zero true ms)) grown ∙ onto_push ts comma (levels zero true ms);
        follows = record {
          depth = h.depth;
          opened = subst (λ us. flat.Nests 0 us h.depth) (sym grown) (nests_comma_at h.depth r.0 h.opened);
          closed = r.1;
        };
      }

  nests_close_at : (d : ℕ) → 0 < d → flat.Nests 0 ts d → flat.Nests 0 (ts ++ closing ∷ []) (d - 1)
  nests_close_at zero some h = absurd (omega arith)
  nests_close_at (suc d) some h = let e : d ≡ suc d - 1 = omega arith in subst (λ n. flat.Nests 0 (ts ++ closing ∷ []) n) e (flat_lemmas.nests_close ts 0 d h)

  pub read_close : later ≡ ts ++ closing ∷ [] → Follows ts (Close ∷ ms) → ReadsTo ts start (Close ∷ ms) later false ms
  unfolding levels
  read_close grown h =
      let r = nests_close h.depth ms h.closed in
      record {
        same = ap (λ (us : List Flat). onto us (levels zero false ms)) grown ∙ onto_push ts closing (levels zero false ms);
        follows = record {
          depth = h.depth - 1;
          opened = subst (λ us. flat.Nests 0 us (h.depth - 1)) (sym grown) (nests_close_at h.depth r.0 h.opened);
          closed = r.1;
        };
      }

-- ---- the whole glob

pub lexemes_after : (n : ℕ) (ms : List held.Lexeme) → lexemes_of (drop n ms) ≡ drop n (lexemes_of ms)
lexemes_after zero ms = refl
lexemes_after (suc n) [] = refl
lexemes_after (suc n) (m ∷ ms) = lexemes_after n ms

-- two steps, one after the other
pub reads_both : (all : List Lexeme) (ts us : List Flat) (start next : Bool) (ms ks : List Lexeme) → ReadsTo [] true all ts start ms → ReadsTo ts start ms us next ks → ReadsTo [] true all us next ks
reads_both all ts us start next ms ks h g = record { same = g.same ∙ h.same; follows = g.follows }

pub whole_run : (ts : List Flat) (ms : List Lexeme) → ts ≡ simple RecursivePrefix ∷ [] → is_whole_run ms ≡ true → tree_of ts ≡ whole ms
unfolding whole
whole_run ts ms e h = ap tree_of e ∙ sym (rw (h, whole) refl)

-- the end of the lexemes
pub finish : (ts : List Flat) (start : Bool) (rest ms : List Lexeme) → length rest ≡ 0 → ReadsTo [] true ms ts start rest → is_whole_run ms ≡ false → tree_of ts ≡ whole ms
unfolding whole levels
finish ts start rest ms nil h w =
    let r = nil_from_length rest nil in
    let e : levels_of ts ≡ levels zero true ms = ap (λ (ks : List Lexeme). onto ts (levels zero start ks)) (sym r) ∙ h.same in
    ap (λ (l : Levels). first_branch l.0) e ∙ sym (rw (w, whole) refl)

pub nested_at_end : (ts : List Flat) (start : Bool) (rest ms : List Lexeme) → length rest ≡ 0 → ReadsTo [] true ms ts start rest → IsNested ts
nested_at_end ts start rest ms nil h =
    let r = nil_from_length rest nil in
    let d : h.follows.depth ≡ 0 = nests_end h.follows.depth (subst (Nests h.follows.depth) r h.follows.closed) in
    subst (flat.Nests 0 ts) d h.follows.opened
