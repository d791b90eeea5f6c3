use Rattle.std.proofs.Common.{rules, ◌≡◌, ◌+◌, ◌<◌, ◌∷◌, [], ◌++◌, length, true, drop, reverse, arith, sym, ap, ◌∙◌, refl}
use Rattle.std.specs.Prelude.{string_bytes, string_len}
use Rattle.std.proofs.lemmas.List.{drop_more, reverse-append}
use Rattle.glob_syntax.specs.FlatTokens.{opening, comma, closing, IsSimple}
use Rattle.glob_syntax.specs.Views.{flat_of, flats, tokens_of}
use Rattle.glob_text.specs.RegexText.{tokens_text}
use Rattle.glob_text.specs.inner.RegexWriting.{Writes}
use Rattle.glob_text.specs.declared.regex_text.OpenGroup.{OpenGroup}
use Rattle.glob_text.proofs.lemmas.RegexWriting.{writes_simple, writes_open, writes_comma, writes_close}
use Rattle.glob_syntax.proofs.lemmas.TokenLists.{not_blank}
use Rattle.glob_text.proofs.regex_text.push_each.Goals as goal
use Rattle.glob_text.proofs.regex_text.push_each.Goals.{in-Open+in_ok-start_branch-in-Open, in-Comma+in-Some+in_ok-start_branch-in-Comma, in-Close+in-Some-pop+in_ok-kept-in-Close, in_default+in_ok-push_simple-in_default}

pub loop-token-preserved : goal.loop-token-preserved
loop-token-preserved c =
    let inv = c.loop-token.invariant in
    let o = c.args.options in
    let tokens = c.args.tokens.now in
    let i = c.loop-token.token-index in
    let token = c.token-item.result in
    let lt : i < length tokens = omega arith in
    let more : drop i tokens ≡ token ∷ drop (i + 1) tokens = drop_more tokens i token lt ∙ ap (λ x. x ∷ drop (i + 1) tokens) (sym c.token-item.is) in
    let whole = string_bytes c.args.text.now ++ tokens_text o (tokens_of tokens) in
    let text = string_bytes c.loop-token.text in
    let kept = c.loop-token.kept in
    let gs = reverse c.loop-token.groups.items in
    let ts = flats (drop (i + 1) tokens) in
    let was : Writes o whole text kept gs (flat_of token ∷ ts) = rw more at inv in
    elim c.match-token.branch [
      | in-Open+in_ok-start_branch-in-Open w ↦
          let is : flat_of token ≡ opening = ap flat_of w.in-Open.is in
          let g : OpenGroup = record { len = string_len c.loop-token.text; first = true; outer_kept = kept } in
          let at : g.len ≡ length text = search rules in
          rw (w.text-is, w.kept-is, w.groups-is, w.in_ok-start_branch-in-Open.ensures.text, w.in_ok-start_branch-in-Open.ensures.group, reverse-append)
          (writes_open o whole text kept gs ts g (rw is at was) at refl refl)
      | in-Comma+in-Some+in_ok-start_branch-in-Comma w ↦
          let is : flat_of token ≡ comma = ap flat_of w.in-Comma.is in
          let group = w.in-Some.group in
          let rest = w.pop.new.self.items in
          let around : c.loop-token.groups.items ≡ rest ++ group ∷ [] = rw w.in-Some.is at w.pop.ensures.items in
          let inside : gs ≡ group ∷ reverse rest = ap reverse around ∙ reverse-append rest (group ∷ []) in
          let begun = string_bytes w.end_branch-first.new.text in
          let none = w.end_branch-first.result in
          let next : OpenGroup = record { len = string_len w.end_branch-first.new.text; first = none; outer_kept = group.outer_kept } in
          let at : next.len ≡ length begun = search rules in
          rw (w.text-is, w.kept-is, w.groups-is, w.in_ok-start_branch-in-Comma.ensures.text, w.in_ok-start_branch-in-Comma.ensures.group, reverse-append)
          (writes_comma o whole text kept group next (reverse rest) ts _ begun none (rw (is, inside) at was)
          refl w.end_branch-first.ensures.text w.end_branch-first.ensures.none at refl refl)
      | in-Close+in-Some-pop+in_ok-kept-in-Close w ↦
          let is : flat_of token ≡ closing = ap flat_of w.in-Close.is in
          let group = w.in-Some-pop.group in
          let rest = w.pop-in-Close.new.self.items in
          let around : c.loop-token.groups.items ≡ rest ++ group ∷ [] = rw w.in-Some-pop.is at w.pop-in-Close.ensures.items in
          let inside : gs ≡ group ∷ reverse rest = ap reverse around ∙ reverse-append rest (group ∷ []) in
          let begun = string_bytes w.end_branch-none.new.text in
          let none = w.end_branch-none.result in
          rw (w.text-is, w.kept-is, w.groups-is, w.in_ok-kept-in-Close.ensures.text, w.in_ok-kept-in-Close.ensures.kept)
          (writes_close o whole text kept group (reverse rest) ts _ begun none (rw (is, inside) at was)
          refl w.end_branch-none.ensures.text w.end_branch-none.ensures.none)
      | in_default+in_ok-push_simple-in_default w ↦
          let plain : IsSimple (flat_of token) = search rules in
          rw (w.text-is, w.kept-is, w.groups-is, w.in_ok-push_simple-in_default.ensures) (writes_simple o whole text kept gs (flat_of token) ts was plain (not_blank token))
    ]
