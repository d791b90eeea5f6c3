use Rattle.globset.proofs.lemmas.WalkNames.{◌≡◌, ℕ, List, [], ◌∷◌, refl, ap, lit<, MutBor, full_share, id⊢, ftrue, flft, fres, named, fact, tables, ‵, raw, ◌⊛◌, some, later, at_ret, ◌$◌, ◌∵◌, !, qed, done, move, keep, use0, use1, use2, use3, split, join, fsplit3, fjoin, feq_l, pick, await, rewrite, suffices, frame, group, enter, of_opd, addr, lit, stop, fld, no_more, and_then, first, exec, returns, alloc_all, pass_all, free_all, look_at, get, through, sets, lands_as, env, unit, yes, MutRef, mut_vals, plain, nothing, heard, peeks, shows, calls_at, lasts, triple_of, feq_i, unit_lit, vunit, Stays, walk_of, stay_dropped, stay_ref, Goes-ref, ends_at, framed}
use denote.Follow.{follows_by, followed}
use mir.Val.{Val, vptr, vcons, vnil, of_list}
use types.Match.{live, vrt, in_variant}
use types.Part.{agg, whole}
use types.Kit.{any_q}
use prog.Wp.{Wp, WpFn, after_seq, at_return}
use base.Logic.{SProp, ent, emp}
use denote.Laws.{Is}
use contract.Monad.{fact_i}
use Rattle.std.proofs.raw_atomic.Walks.{proved_at}
use Rattle.std.proofs.VecSteps.Shapes.{arm_body}
use types.Run.{switches_on}
use types.ByLocal.{get_in, get_tag, sets_last}
use Rattle.globset.proofs.lemmas.WalkNames.{◌∙◌}
use mathlib.Core.Path.{subst, sym}
use Rattle.std.specs.Prelude.{Ok, Err}
use denote.Lend.{lends_again, comes_back, LentAgain}
use denote.Triple.Clauses.{Lasts}
use Rattle.globset.proofs.lemmas.WalkParameters.{Goes-blank, one_val}
use Rattle.globset.proofs.lemmas.WalkResults.{and_tt, ok_of, err_of, cases}
use types.Tokens.{lft_new, lft_end}
use Rattle.std.specs.contracts.result.Result as result
use Rattle.std.specs.Prelude.{Result, ◌++◌, IfOk, IfErr, ⊤}
use Rattle.globset_glob.specs.GlobMatches.{GlobValue}
use Rattle.globset_glob.specs.Errors.{ErrorValue, out_of_memory}
use Rattle.globset.specs.contracts.builder.GlobSetBuilder.{the_row as R}
use Rattle.globset_glob.specs.contracts.glob.Glob.{the_row as GlobRow}
use Rattle.glob_text.specs.contracts.error.Error.{the_row as ErrorRow}
use Rattle.globset_glob.proofs.glob.Glob.TheLaws as glob
use Rattle.glob_text.proofs.error.Error.TheLaws as error
use Rattle.globset.specs.contracts.laws.failed_add_keeps as f
use Rattle.globset.specs.Lending.{LendsItself}
use Rattle.globset.proofs.laws.failed_add_keeps.Statement.{statement}
use Rattle.globset.proofs.laws.failed_add_keeps.Code as code
use Rattle.globset.specs.contracts.builder.GlobSetBuilder.add as g
use Rattle.globset.proofs.builder.GlobSetBuilder.add.Met.{met}

abbrev stayed : Stays f.ended.signature.params f.ended.kept
stayed = (stay_ref (0 ∷ []) tt (plain (λ _. R)), (stay_dropped (plain (λ _. GlobRow)) yes, tt))

pub failed_add_keeps_spec : {M : Type 1} → statement M
unfolding follows_by
failed_add_keeps_spec 𝓤 𝓛 𝓜 𝓡 wired =
    let c = f.clauses 𝓛 𝓜.mem 𝓡.returns in let W = walk_of 𝓛 f.ended stayed c in let 𝓣 = tables 𝓤 𝓛.H 𝓜 𝓡 𝓡.env in
    proved_at 𝓛 f.ended stayed c 𝓜 𝓡 (Goes-ref 𝓛 1 0 tt (plain (λ _. R)), (Goes-blank 𝓛 1 (plain (λ _. GlobRow)) yes (λ κs x w. tt), tt))
    f.Key.name code.function (code.unfolded 𝓤 𝓛.H 𝓜 𝓡 wired) (λ y are.
    let κs = y.0.0 in let qs = y.0.1 in let a = y.0.3 in
    let κ = κs.0 in let q = qs.0 in let r = a.0 in let b = r.ref_ptr.0 in let o = r.ref_ptr.1 in let x : GlobValue = a.1.0 in
    one_val y.0.4.1.0 (glob.the_row_laws.single x y.0.4.1.0 are.1.0) (λ gv lone.
    let vs = mut_vals r in let gs : List Val = gv ∷ [] in
    let typed = (glob.the_row_laws.lawful 𝓛).typed x gs (subst (Is GlobRow x) lone are.1.0) in
    let Run : List Val → SProp 𝓤 = λ ts. WpFn 𝓤 𝓛.H 𝓣.C 𝓣.Λ code.function ts (W.post y) in
    let Ref = λ (κ' : List ℕ) (m : MutBor (List GlobValue)). (MutRef (named 0) κ' R).own_val m vs in
    let Out = result.the_row unit ErrorRow in
    qed 𝓛 (((‵ (flft κ q) ⊛ ‵ ftrue) ⊛ ‵ ((MutRef (named 0) κ R).own_val r y.0.4.0) ⊛ ‵ (GlobRow.own_val x y.0.4.1.0) ⊛ ‵ ftrue) ∷ ‵ ftrue ∷ []) ∵
    suffices ! (Run (vptr b o ∷ gv ∷ [])) (subst (λ (ts : List Val). ent 𝓤 (Run (vptr b o ∷ gv ∷ [])) (Run ts)) (sym (λ i. are.0.0 i ++ (lone i ++ []))) (id⊢ 𝓤 (Run (vptr b o ∷ gv ∷ [])))) $
    split ! $ split ! $ move ! (2 ∷ []) $ split ! $ move ! (1 ∷ []) $ split ! $ keep ! (2 ∷ 0 ∷ 3 ∷ []) $
    rewrite ! 0 (λ (ts : List Val). ‵ ((MutRef (named 0) κ R).own_val r ts)) are.0.0 refl $
    rewrite ! 1 (λ (ts : List Val). ‵ (GlobRow.own_val x ts)) lone refl $
    -- [the reference; the glob; the token]
    enter ! _ _ _ _ _ $ alloc_all ! (λ l. pass_all ! refl ((tt, tt), (typed.0, tt)) $
    sets ! (addr ! (through ! refl (stop !))) refl (tt, tt) $
    sets ! (of_opd ! (get ! refl)) refl typed.0 $
    lft_new ! tt (λ α. move ! (1 ∷ 3 ∷ []) $
    use2 𝓛 (later (some (λ (δ : ℕ). ‵ (Ref (α ∷ []) (record r { ghost_name = δ })) ⊛ ‵ (LentAgain R κ (α ∷ []) q r.ghost_name b o δ r.now))))
    (lends_again 𝓛 R (named 0) κ (α ∷ []) q r.ghost_name b o (named 0) r.now) $ await ! tt $ pick ! (λ δ. split ! $
    -- [the loan; what the lender keeps; the token of α; the glob]
    let G = triple_of 𝓛 g.signature (g.spec 𝓛 𝓜.mem 𝓡.returns) in
    let lent : MutBor (List GlobValue) = record r { ghost_name = δ } in let Lent = MutRef (named 0) (α ∷ []) R in
    let z : G.Ghost = (((α ∷ [], tt), (full_share, tt), tt, (lent, (x, tt)), (vs, (gs, tt))), tt) in
    let Kept = λ (u : Result (MutBor (List GlobValue)) ErrorValue). LendsItself lent u in
    nothing ! $ move ! (4 ∷ 0 ∷ []) $ join ! $ move ! (1 ∷ 0 ∷ []) $ join ! $ nothing ! $ move ! (3 ∷ 0 ∷ []) $ join ! $ join ! $
    nothing ! $ move ! (1 ∷ 0 ∷ []) $ use2 𝓛 (raw (G.pre z)) (id⊢ 𝓤 _) $
    calls_at ! (framed 𝓤 𝓛.H 𝓜 (tables 𝓤 𝓛.H 𝓜 𝓡 𝓡.env)) G (met 𝓤 𝓛 𝓜 𝓡 (code.calls-globset::builder::GlobSetBuilder::add 𝓡.env wired)) z
    (and_then ! (get ! refl) (and_then ! (get ! refl) (no_more !))) (λ v.
    use1 𝓛 (later (some (λ (u : Result (MutBor (List GlobValue)) ErrorValue). ((‵ (flft (α ∷ []) full_share) ⊛ ‵ ftrue) ⊛ ‵ ((result.the_row Lent ErrorRow).own_val u (v ∷ []))) ⊛
    some (λ (ws : Lasts g.ended z.0.0 z.0.3). ‵ (lasts g.ended z.0.0 z.0.3 ws) ⊛ ‵ (Kept u) ⊛ raw (fact 𝓤 (IfOk u (λ m. (m.ghost_name ≡ δ) × (m.now ≡ r.now ++ x ∷ [])))) ⊛ raw (fact 𝓤 (IfErr u (λ e. e ≡ out_of_memory))))))) (id⊢ 𝓤 _) $
    await ! tt $ pick ! (λ u. split ! $ split ! $ split ! $
    -- [the token of α; nothing; the result; the last values and the clauses; what the lender keeps]
    move ! (3 ∷ []) $ pick ! (λ ws. split ! $ move ! (1 ∷ []) $ split ! $ move ! (1 ∷ []) $ split ! $ heard ! _ (λ ok. heard ! _ (λ only.
    -- [the first clause; the last values; the token of α; nothing; the result; what the lender keeps]
    move ! (4 ∷ 0 ∷ 2 ∷ 5 ∷ []) $
    -- [the result; the first clause; the token of α; what the lender keeps; the last values; nothing]
    let Then = any_q (after_seq 𝓤 𝓛.H (Wp 𝓤 𝓛.H 𝓣.C 𝓣.Λ (env code.Mir.locals l) code.Mir.t-5 (at_return 𝓤 𝓛.H (env code.Mir.locals l) (W.post y))) (at_return 𝓤 𝓛.H (env code.Mir.locals l) (W.post y))) in
    cases ! Lent ErrorRow u v
    (λ m us is_ok value. fsplit3 ! $ feq_l ! (λ is_ptr.
    use1 𝓛 (‵ (fres m.ghost_name (R.coded.code m.now))) (𝓛.names.obs-res m.ghost_name (R.coded.code m.now)) $
    rewrite ! 2 (λ (t : Result (MutBor (List GlobValue)) ErrorValue). ‵ (Kept t)) is_ok refl $ move ! (2 ∷ 0 ∷ []) $
    use2 𝓛 (‵ (fres δ (R.coded.code m.now))) (followed 𝓛 R R (λ w. w) δ m.ghost_name m.now) $
    -- [the last value of the loan; the result's borrow; the token of α; what the lender keeps]
    move ! (2 ∷ []) $ lft_end ! tt $ move ! (0 ∷ 3 ∷ 1 ∷ []) $
    use3 𝓛 (later (‵ (Ref κ (record r { now = m.now })) ⊛ ‵ (flft κ q))) (comes_back 𝓛 R (named 0) κ (α ∷ []) q r.ghost_name b o δ r.now m.now) $ await ! tt $ split ! $
    lands_as ! (value ∙ ap (λ (ts : List Val). live 0 (of_list (ts ++ []))) is_ptr) refl (tt, (record { fits = lit< tt }, (tt, tt))) $
    first ! $ switches_on ! (get_tag ! (vrt ! refl (fld ! refl (stop !))) (whole !)) $ exec ! 𝓣.C 𝓣.Λ (env code.Mir.locals l) (arm_body 0 code.Mir.s-4) Then $
    sets_last ! (agg ! (and_then ! (lit ! tt) (and_then ! (unit_lit !) (no_more !)))) refl (tt, (record { fits = lit< tt }, (tt, tt))) $
    exec ! 𝓣.C 𝓣.Λ (env code.Mir.locals l) code.Mir.t-5 (at_ret _ (W.post y)) $
    sets ! (of_opd ! (get ! refl)) refl (tt, (record { fits = lit< tt }, (tt, tt))) $
    feq_i ! (List Val) (vunit ∷ []) (vunit ∷ []) refl $ use1 𝓛 (‵ (Out.own_val (Ok tt) (live 0 (vcons vunit vnil) ∷ []))) (ok_of 𝓛 unit ErrorRow tt vunit) $
    returns ! (look_at ! 0 refl) $ free_all ! refl $ keep ! (0 ∷ 1 ∷ 2 ∷ []) $
    -- [the result; the reference; the token]
    rewrite ! 1 (λ (ts : List Val). ‵ ((MutRef (named 0) κ R).own_val (record r { now = m.now }) ts)) (sym are.0.0) refl $
    let Added : Type 0 = m.now ≡ r.now ++ x ∷ [] in
    use0 𝓛 (raw (fact 𝓤 ⊤)) (fact_i 𝓤 ⊤ (emp 𝓤) tt) $ use0 𝓛 (raw (fact 𝓤 ⊤)) (fact_i 𝓤 ⊤ (emp 𝓤) tt) $ join ! $
    use0 𝓛 (raw (fact 𝓤 Added)) (fact_i 𝓤 Added (emp 𝓤) (subst (λ (t : Result (MutBor (List GlobValue)) ErrorValue). IfOk t (λ m'. (m'.ghost_name ≡ δ) × (m'.now ≡ r.now ++ x ∷ []))) is_ok ok).1) $
    suffices ! _ (ends_at 𝓛 f.ended stayed c y (live 0 (vcons vunit vnil)) (Ok tt) (m.now, (ws.1.0, tt)) (tt, (tt, tt))) $
    nothing ! $ move ! (5 ∷ 0 ∷ []) $ join ! $ nothing ! $ nothing ! $ fjoin ! $ move ! (5 ∷ 0 ∷ []) $ fjoin ! $
    move ! (1 ∷ 0 ∷ 4 ∷ 2 ∷ 3 ∷ []) $ group ! 3 $ frame ! $ frame ! $ done !))
    (λ e us is_err value. peeks ! ErrorRow _ (shows 𝓛 ErrorRow) e us (λ shown.
    one_val us (error.the_row_laws.single e us shown) (λ ev told.
    rewrite ! 0 (λ (ts : List Val). ‵ (ErrorRow.own_val e ts)) told refl $
    peeks ! ErrorRow _ (shows 𝓛 ErrorRow) e (ev ∷ []) (λ shown'.
    let good = (error.the_row_laws.lawful 𝓛).typed e (ev ∷ []) shown' in
    rewrite ! 1 (λ (t : Result (MutBor (List GlobValue)) ErrorValue). ‵ (Kept t)) is_err refl $
    -- [the error; the last value of the loan; the token of α; what the lender keeps]
    move ! (2 ∷ []) $ lft_end ! tt $ move ! (0 ∷ 3 ∷ 2 ∷ []) $
    use3 𝓛 (later (‵ (Ref κ r) ⊛ ‵ (flft κ q))) (comes_back 𝓛 R (named 0) κ (α ∷ []) q r.ghost_name b o δ r.now r.now) $ await ! tt $ split ! $ move ! (2 ∷ []) $
    lands_as ! (value ∙ ap (λ (ts : List Val). live 1 (of_list (ts ++ []))) told) refl (and_tt _ good.0.0, (record { fits = lit< tt }, (good.0.1, tt))) $
    first ! $ switches_on ! (get_tag ! (vrt ! refl (fld ! refl (stop !))) (whole !)) $ exec ! 𝓣.C 𝓣.Λ (env code.Mir.locals l) (arm_body 1 code.Mir.s-4) Then $
    sets ! (of_opd ! (get_in ! (vrt ! refl (fld ! refl (stop !))) (in_variant ! 1 0 refl refl (whole !)))) refl good.0 $
    sets ! (of_opd ! (get ! refl)) refl good.0 $
    sets_last ! (agg ! (and_then ! (lit ! tt) (and_then ! (get ! refl) (no_more !)))) refl (and_tt _ good.0.0, (record { fits = lit< tt }, (good.0.1, tt))) $
    exec ! 𝓣.C 𝓣.Λ (env code.Mir.locals l) code.Mir.t-5 (at_ret _ (W.post y)) $
    sets ! (of_opd ! (get ! refl)) refl (and_tt _ good.0.0, (record { fits = lit< tt }, (good.0.1, tt))) $
    use1 𝓛 (‵ (Out.own_val (Err e) (live 1 (vcons ev vnil) ∷ []))) (err_of 𝓛 unit ErrorRow e ev) $
    returns ! (look_at ! 0 refl) $ free_all ! refl $ keep ! (0 ∷ 1 ∷ 2 ∷ []) $
    -- [the result; the reference; the token]
    rewrite ! 1 (λ (ts : List Val). ‵ ((MutRef (named 0) κ R).own_val r ts)) (sym are.0.0) refl $
    let Same : Type 0 = r.now ≡ r.now in let Memory : Type 0 = e ≡ out_of_memory in
    use0 𝓛 (raw (fact 𝓤 Memory)) (fact_i 𝓤 Memory (emp 𝓤) (subst (λ (t : Result (MutBor (List GlobValue)) ErrorValue). IfErr t (λ d. d ≡ out_of_memory)) is_err only)) $
    use0 𝓛 (raw (fact 𝓤 Same)) (fact_i 𝓤 Same (emp 𝓤) refl) $ join ! $ use0 𝓛 (raw (fact 𝓤 ⊤)) (fact_i 𝓤 ⊤ (emp 𝓤) tt) $
    suffices ! _ (ends_at 𝓛 f.ended stayed c y (live 1 (vcons ev vnil)) (Err e) (r.now, (ws.1.0, tt)) (tt, (tt, tt))) $
    nothing ! $ move ! (5 ∷ 0 ∷ []) $ join ! $ nothing ! $ nothing ! $ fjoin ! $ move ! (5 ∷ 0 ∷ []) $ fjoin ! $
    move ! (1 ∷ 0 ∷ 4 ∷ 2 ∷ 3 ∷ []) $ group ! 3 $ frame ! $ frame ! $ done !))))))))))))))
