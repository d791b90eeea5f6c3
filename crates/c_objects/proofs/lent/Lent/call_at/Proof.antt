-- `call_at` lends what the address has to the closure, and gives the right back.
use mathlib.Core.Path.{◌≡◌, refl, sym, subst, ap}
use mathlib.Core.Bool.{Bool, true, false, ◌&&◌}
use Prim.Native.Nat.{ℕ}
use mathlib.Core.List.{List, [], ◌∷◌, ◌++◌}
use lib.Dec.{T}
use seplogic.Ra.Ura.{Ura}
use mir.Syntax.{Ty, Args, Fn, Dict, a_type, dnil, dcons, method, no_args}
use mir.Val.{Val, vptr, vstruct, vcons, vnil, of_list, has_ty, WT}
use mir.MapTy.{inst_fn}
use base.Logic.{SProp, ent, emp, never, via, id⊢, fst∗, snd∗}
use base.Fml.{ftrue, fsep, flft}
use prog.Memory.{Memory}
use prog.Routine.{Routine}
use prog.Wp.{WpFn, Tables}
use types.Logic.{Logic, sem}
use contract.BorrowLft.{◌⊑◌}
use contract.Lifetimes.{Lfts}
use contract.Monad.{Fun, fact, fact_i, fact_use}
use contract.Running.{tables, tables_of}
use sound.WpLaws.{fm_of, WpFn-mono}
use types.Kit.{Goal, Seq, Step, step, ⋆, Item, ‵, raw, ◌⊛◌, some, later, ◌$◌, ◌∵◌, !, qed, by, move, drop, use0, use1, split, split3, join, pick, rewrite, fsplit, fjoin, fpick, fpack, feq_i, feq_l, suffices, await, done}
use types.Part.{whole, sub, agg}
use types.Run.{stop, fld, addr, no_more, and_then, of_opd, returns, enter}
use types.ByLocal.{alloc_all, pass_all, free_all, look_at, get, get_in, through, sets, lands_as}
use denote.Exit.{yes, no}
use denote.RattleType.{RattleType, owns, Valss}
use denote.Laws.{Typed, Is, Are, Ises, shows, owns_show, showss}
use denote.Memory.{shared_of, hidden_shr}
use denote.Opens.{shr_dup, hide, unhide}
use denote.Param.{layout, bounded, param}
use denote.Param.Laws.{Laws, param_laws}
use denote.Param.Steps.{one_value}
use denote.Param.Members.{once_call}
use denote.Param.Call as called
use denote.RawPtr.{Ptr, RawPtr, block_ptr, ptr_val, in_a_block}
use denote.Ref.{Bor}
use denote.Signature.{plain, types_at}
use denote.Struct.Declared as declared
use denote.Struct.Owning as owning
use denote.Struct.Struct.{within}
use denote.Struct.Tuple.{tuple_type}
use denote.Steps.{heard, nothing, only, peeks}
use denote.Triple.Call.{calls_at}
use denote.Triple.Clauses.{Ended, Clauses, closing, lasts}
use denote.Triple.Entry.{on_entry, alive}
use denote.Triple.Spec.{Meets, triple_of}
use denote.Triple.Statement.{Triple, Contract}
use denote.Triple.Table.{entered}
use denote.Triple.Walked.{Stays, stay_dropped, walk_of, ends_at, says, Goes-dropped, walk_Meets}
use Rattle.c_objects.specs.LentAt.{lends}
use Rattle.c_objects.specs.contracts.object.Object as Object
use Rattle.c_objects.proofs.object.Object.TheLaws as object
use Rattle.c_objects.specs.declared.lent.Lent.{Lent}
use Rattle.c_objects.specs.contracts.lent.Lent as Row
use Rattle.c_objects.specs.contracts.lent.Lent.call_at as F
use Rattle.c_objects.specs.contracts.lent.Lent.call_at.F-FnOnce as Called
use Rattle.c_objects.specs.contracts.lent.Lent.call_at.Key as key
use Rattle.c_objects.proofs.lent.Lent.call_at.Statement as stated
use Rattle.c_objects.proofs.lent.Lent.call_at.Code as code

both : (a b : Bool) → T a → T b → T (a && (b && true))
both true true s t = tt
both true false s t = absurd t
both false b s t = absurd s

abbrev word : ℕ → ℕ → Val
word b o = vstruct (vcons (vptr b o) vnil)

alone : (τ : Ty) (vs : List Val) → Typed (τ ∷ []) vs → (v : Val) × ((vs ≡ v ∷ []) × (T (has_ty τ v) × WT v))
alone τ [] t = absurd t
alone τ (v ∷ []) t = (v, (refl, t.0))
alone τ (v ∷ w ∷ vs) t = absurd t.1

module _ {M : Type 1} {𝓤 : Ura M} {𝓛 : Logic 𝓤} {K : Type 0} {Γ : List (Item 𝓤)} {G : Goal 𝓤 𝓛.H} where
  -- what is owned of a parameter's value is one machine value
  tells : K → (i : ℕ) (Z : RattleType) → Laws Z → (a : Z.Denot) (vs : List Val)
      → ((v : Val) → vs ≡ v ∷ [] → T (has_ty (layout Z) v) × WT v → Seq K 𝓛 (‵ (Z.own_val a (v ∷ [])) ∷ Γ) G) → Seq K 𝓛 (‵ (Z.own_val a vs) ∷ Γ) G
  tells t i Z L a vs k =
      peeks t (param i Z) (Is (param i Z)) (shows 𝓛 (param i Z)) a vs (λ is.
      let one = alone (layout Z) vs (((param_laws i Z L).lawful 𝓛).typed a vs is) in
      rewrite t 0 (λ (us : List Val). ‵ (Z.own_val a us)) one.1.0 refl $ k one.0 one.1.0 one.1.1)

  -- a lent object by value is [the token; the object behind a `&`]
  lent_out : K → (d : Lent) (vs : List Val)
      → ((b o : ℕ) → d.at ≡ block_ptr b o → vs ≡ word b o ∷ [] → Seq K 𝓛 (‵ (flft d.life d.share) ∷ ‵ (hidden_shr Object.the_row d.life d.object b o) ∷ Γ) G)
      → Seq K 𝓛 (‵ (Row.the_row.own_val d vs) ∷ Γ) G
  lent_out t d vs k =
      fsplit t $ fpick t (λ vss. fsplit t $ feq_l t (λ ev. fsplit t $ feq_l t (λ ep. drop t $
      in_a_block t d.at (λ p. lends p d.life d.share d.object) (via 𝓤 _ (snd∗ 𝓤 (sem 𝓛 (flft d.life d.share)) _) (fst∗ 𝓤 (never 𝓤) (sem 𝓛 (shared_of Object.the_row d.object 0 0 d.life)))) (λ b o e.
      fsplit t $ move t (1 ∷ []) $ fsplit t $ drop t $ hide t $ move t (1 ∷ 0 ∷ []) $ k b o e
      (subst (λ (p : Ptr). vs ≡ vstruct (vcons (ptr_val p) vnil) ∷ []) e (subst (λ (ps : List Val). vs ≡ vstruct (of_list (ps ++ [])) ∷ []) ep ev))))))

  lent_in : K → (d : Lent) (b o : ℕ) → d.at ≡ block_ptr b o
      → Step K 𝓛 (‵ (Row.the_row.own_val d (word b o ∷ [])) ∷ Γ) G (‵ (flft d.life d.share) ∷ ‵ (hidden_shr Object.the_row d.life d.object b o) ∷ Γ) G
  lent_in t d b o e = step (λ s.
      move t (1 ∷ []) $ unhide t $ nothing t $ fjoin t $ move t (1 ∷ 0 ∷ []) $ fjoin t $ use1 𝓛 (‵ (lends (block_ptr b o) d.life d.share d.object)) (id⊢ 𝓤 _) $
      rewrite t 0 (λ (p : Ptr). ‵ (lends p d.life d.share d.object)) (sym e) refl $
      nothing t $ feq_i t (List Val) (vptr b o ∷ []) (ptr_val d.at ∷ []) (ap (λ (p : Ptr). ptr_val p ∷ []) (sym e)) $ fjoin t $
      feq_i t (List Val) (word b o ∷ []) (word b o ∷ []) refl $ fjoin t $
      fpack t (Valss (RawPtr ∷ [])) (within (owning.shape Row.the_type) (d.at, tt) (word b o ∷ [])) (vptr b o ∷ [], tt) $ fjoin t $ s)

module _ (X R Z : RattleType) (g : Called.Ghosts X R Z) (d d' : Dict) where
  abbrev args : Args
  args = bounded (a_type ∷ a_type ∷ a_type ∷ []) (X, (R, (Z, tt))) (dcons d (dcons d' dnil))

  abbrev here : Fn
  here = inst_fn args code.function

  abbrev ended : Ended
  ended = F.ended X R Z g d d'

  abbrev stayed : Stays ended.signature.params ended.kept
  stayed = (stay_dropped (plain (λ _. Row.the_row)) yes, (stay_dropped (plain (λ _. param 0 X)) no, (stay_dropped (plain (λ _. param 2 Z)) no, tt)))

  abbrev Once : {M : Type 1} {𝓤 : Ura M} (𝓛 : Logic 𝓤) → Contract 𝓤
  Once 𝓛 = triple_of 𝓛 (Called.ended X R Z).signature
      (called.spec (Called.ended X R Z) 3 (λ κs. (κs.1.0, (κs.1.1.0, (κs.1.1.1.0, tt)))) (Z.lives, (X.lives, (R.lives, tt))) (once_call g) (λ κs a. a) (λ κs a. a) (λ κs a. a) 𝓛)

  module _ (LX : Laws X) (LR : Laws R) (LZ : Laws Z) {M : Type 1} {𝓤 : Ura M} (𝓛 : Logic 𝓤) (at_mem : Memory → SProp 𝓤) (run : Routine → Fun 𝓤) (𝓣 : Tables 𝓤 𝓛.H) (met : Triple 𝓤 (𝓣.C (method d 0 no_args)) (Once 𝓛)) where
    open 𝓛 use {H}

    abbrev held : Clauses 𝓤 ended
    held = F.clauses X R Z g d d' 𝓛 at_mem run

    module _ (z : (walk_of 𝓛 ended stayed held).Ghost) where
      abbrev At : List Val → List Val → List Val → (walk_of 𝓛 ended stayed held).Ghost
      At ls xs fs = ((z.0.0, z.0.1, z.0.2, z.0.3, (ls, (xs, (fs, tt)))), z.1)

      abbrev Goes : List Val → List Val → List Val → Type 1
      Goes ls xs fs = ent 𝓤 ((walk_of 𝓛 ended stayed held).pre (At ls xs fs)) (WpFn 𝓤 H 𝓣.C 𝓣.Λ here (ls ++ (xs ++ (fs ++ []))) ((walk_of 𝓛 ended stayed held).post (At ls xs fs)))

      walk : (ls : List Val) (u : Val) → T (has_ty (layout X) u) × WT u → (w : Val) → T (has_ty (layout Z) w) × WT w → Goes ls (u ∷ []) (w ∷ [])
      walk ls u gu w gw =
          let κ₀ = z.0.0.0 in let κ₁ = z.0.0.1.0 in let κ₂ = z.0.0.1.1.0 in
          let q₀ = z.0.1.0 in let q₁ = z.0.1.1.0 in let q₂ = z.0.1.1.1.0 in
          let l = z.0.3.0 in let x = z.0.3.1.0 in let f = z.0.3.1.1.0 in
          let Ok : Type 0 = (r : Bor Object.the_row.Denot) → r.now ≡ l.object → g.pre f (r, (x, tt)) in
          let ts : Item 𝓤 = ‵ (flft κ₀ q₀) ⊛ ‵ (flft κ₁ q₁) ⊛ ‵ (flft κ₂ q₂) ⊛ ‵ ftrue in
          let facts : Item 𝓤 = raw (fact 𝓤 (κ₀ ⊑ X.lives)) ⊛ raw (fact 𝓤 (κ₁ ⊑ R.lives)) ⊛ raw (fact 𝓤 (κ₂ ⊑ Z.lives)) ⊛ raw (fact 𝓤 Ok) in
          qed 𝓛 ((ts ⊛ ‵ (fsep (Row.the_row.own_val l ls) (fsep (X.own_val x (u ∷ [])) (fsep (Z.own_val f (w ∷ [])) ftrue)))) ∷ facts ∷ []) ∵
          split ! $ move ! (1 ∷ []) $ fsplit ! $
          lent_out ! l ls (λ b o e ws.
          let y₀ = At (word b o ∷ []) (u ∷ []) (w ∷ []) in
          let Post : Val → SProp 𝓤 = (walk_of 𝓛 ended stayed held).post y₀ in
          let Γ : List (Item 𝓤) = ‵ (flft l.life l.share) ∷ ‵ (hidden_shr Object.the_row l.life l.object b o) ∷ ‵ (fsep (X.own_val x (u ∷ [])) (fsep (Z.own_val f (w ∷ [])) ftrue)) ∷ ts ∷ facts ∷ [] in
          by ! (subst (λ (us : List Val). ent 𝓤 (⋆ 𝓛 Γ) (WpFn 𝓤 H 𝓣.C 𝓣.Λ here (us ++ (u ∷ (w ∷ []))) ((walk_of 𝓛 ended stayed held).post (At us (u ∷ []) (w ∷ []))))) (sym ws)
          (qed 𝓛 Γ ∵
          let U : Type 0 = Unit {0} × (Unit {0} × (Unit {0} × Unit {0})) in
          let s : Bor Object.the_row.Denot = record { ref_ptr = (b, o); now = l.object } in
          move ! (4 ∷ []) $ split ! $ heard ! (κ₀ ⊑ X.lives) (λ inX. split ! $ heard ! (κ₁ ⊑ R.lives) (λ in_r. split ! $ heard ! (κ₂ ⊑ Z.lives) (λ inZ. heard ! Ok (λ ok.
          -- [the right; the object; the arguments; the tokens]
          move ! (2 ∷ []) $ fsplit ! $ move ! (1 ∷ []) $ fsplit ! $ move ! (1 ∷ []) $ drop ! $
          -- [f; x; the right; the object; the tokens]
          enter ! 𝓣.C 𝓣.Λ here (word b o ∷ u ∷ w ∷ []) _ $ alloc_all ! (λ cells. pass_all ! refl ((tt, (tt, tt)), (gu, (gw, tt))) $
          sets ! (of_opd ! (get ! refl)) refl gw $ sets ! (of_opd ! (get_in ! (fld ! refl (stop !)) (sub ! 0 refl (whole !)))) refl (tt, tt) $
          sets ! (addr ! (through ! refl (stop !))) refl (tt, tt) $ sets ! (of_opd ! (get ! refl)) refl gu $
          move ! (3 ∷ []) $ shr_dup ! Object.the_row object.the_row_laws.shr_laws l.object b o l.life $
          -- [the object; the object; f; x; the right; the tokens]
          let κs : Lfts 4 = (l.life, (κ₂, (κ₀, (κ₁, tt)))) in
          let y : (Once 𝓛).Ghost = ((κs, (l.share, (q₂, (q₀, (q₁, tt)))), tt, (f, (s, (x, tt))), (w ∷ [], (vptr b o ∷ [], (u ∷ [], tt)))), tt) in
          feq_i ! (List Val) (vptr b o ∷ []) (vptr b o ∷ []) refl $ fjoin ! $
          -- [the reference; the object; f; x; the right; the tokens]
          nothing ! $ move ! (4 ∷ 0 ∷ []) $ fjoin ! $ move ! (1 ∷ 0 ∷ []) $ fjoin ! $ move ! (2 ∷ 0 ∷ []) $ fjoin ! $
          -- [what the arguments own; the object; the right; the tokens]
          move ! (3 ∷ []) $ split3 ! $ move ! (2 ∷ []) $ split ! $ move ! (3 ∷ 1 ∷ []) $ join ! $ move ! (2 ∷ 0 ∷ []) $ join ! $ move ! (1 ∷ 0 ∷ []) $ join ! $ move ! (3 ∷ 0 ∷ []) $ join ! $ join ! $
          use0 𝓛 (raw (fact 𝓤 (g.pre f (s, (x, tt))))) (fact_i 𝓤 (g.pre f (s, (x, tt))) (emp 𝓤) (ok s refl)) $ use0 𝓛 (raw (fact 𝓤 (κ₁ ⊑ R.lives))) (fact_i 𝓤 (κ₁ ⊑ R.lives) (emp 𝓤) in_r) $ join ! $
          use0 𝓛 (raw (fact 𝓤 (κ₀ ⊑ X.lives))) (fact_i 𝓤 (κ₀ ⊑ X.lives) (emp 𝓤) inX) $ join ! $ use0 𝓛 (raw (fact 𝓤 (κ₂ ⊑ Z.lives))) (fact_i 𝓤 (κ₂ ⊑ Z.lives) (emp 𝓤) inZ) $ join ! $
          move ! (1 ∷ 0 ∷ []) $ join ! $ use1 𝓛 (raw ((Once 𝓛).pre y)) (id⊢ 𝓤 ((Once 𝓛).pre y)) $
          calls_at ! (fm_of 𝓤 H 𝓛.laws 𝓣) (Once 𝓛) met y (and_then ! (get ! refl) (and_then ! (get ! refl) (and_then ! (get ! refl) (no_more !)))) (λ got.
          use1 𝓛 (later (some (λ (r : R.Denot). ((‵ (flft l.life l.share) ⊛ ‵ (flft κ₂ q₂) ⊛ ‵ (flft κ₀ q₀) ⊛ ‵ (flft κ₁ q₁) ⊛ ‵ ftrue) ⊛ ‵ (R.own_val r (got ∷ [])))
          ⊛ some (λ (us : U). ‵ (lasts (Called.ended X R Z) y.0.0 y.0.3 us) ⊛ raw (fact 𝓤 (g.post f (s, (x, tt)) r)))))) (id⊢ 𝓤 ((Once 𝓛).post y got)) $
          await ! tt $ pick ! (λ r. split ! $ move ! (1 ∷ []) $ pick ! (λ us. split ! $ drop ! $ heard ! (g.post f (s, (x, tt)) r) (λ gave. split ! $ move ! (1 ∷ []) $
          -- [the result; the tokens; the object]
          tells ! 1 R LR r (got ∷ []) (λ v e' gv. lands_as ! (ap only e') refl gv $ sets ! (of_opd ! (get ! refl)) refl gv $
          sets ! (agg ! (and_then ! (get ! refl) (and_then ! (get ! refl) (no_more !)))) refl (both (has_ty (layout R) v) true gv.0 tt, (gv.1, ((tt, tt), tt))) $ returns ! (look_at ! 0 refl) $ free_all ! refl $
          let pair : Val = vstruct (vcons v (vcons (word b o) vnil)) in
          move ! (1 ∷ []) $ split ! $ move ! (0 ∷ 3 ∷ []) $ lent_in ! l b o e $
          -- [the lent object; the tokens; the result]
          move ! (2 ∷ 0 ∷ []) $ nothing ! $ move ! (2 ∷ 0 ∷ []) $ fjoin ! $ move ! (1 ∷ 0 ∷ []) $ fjoin ! $ feq_i ! (List Val) (pair ∷ []) (pair ∷ []) refl $ fjoin ! $
          fpack ! (Valss (param 1 R ∷ Row.the_row ∷ [])) (within (declared.shape (tuple_type (param 1 R ∷ Row.the_row ∷ []))) (r, (l, tt)) (pair ∷ [])) (v ∷ [], (word b o ∷ [], tt)) $
          move ! (1 ∷ []) $ split3 ! $ move ! (2 ∷ []) $ split ! $ move ! (2 ∷ 1 ∷ []) $ join ! $ move ! (1 ∷ 0 ∷ []) $ join ! $ move ! (1 ∷ 0 ∷ []) $ join ! $ move ! (1 ∷ 0 ∷ []) $
          suffices ! _ (ends_at 𝓛 ended stayed held y₀ pair (r, l) (tt, (tt, (tt, tt))) (tt, (tt, (tt, tt)))) $ says ! (refl, (s, refl, gave)) $
          nothing ! $ nothing ! $ fjoin ! $ nothing ! $ fjoin ! $ nothing ! $ fjoin ! $ join ! $ move ! (1 ∷ 0 ∷ []) $ join ! $ done !)))))))))))))

    meets : Meets 𝓛 ended.signature (WpFn 𝓤 H 𝓣.C 𝓣.Λ here) (closing 𝓛 ended held)
    meets =
        walk_Meets 𝓛 ended stayed (Goes-dropped 𝓛 3 (plain (λ _. Row.the_row)) yes (λ κs x f. refl), (Goes-dropped 𝓛 3 (plain (λ _. param 0 X)) no (λ κs x f. refl), (Goes-dropped 𝓛 3 (plain (λ _. param 2 Z)) no (λ κs x f. refl), tt))) held
        (WpFn 𝓤 H 𝓣.C 𝓣.Λ here) (WpFn-mono 𝓤 H 𝓛.laws 𝓣 here)
        (λ z. let a = z.0.3 in let vss = z.0.4 in let Rs : List RattleType = types_at ended.signature.params z.0.0 in
        let entry : SProp 𝓤 = on_entry 𝓛 ended.signature z.0.0 z.0.1 a vss in
        fact_use 𝓤 (Are Rs (Ises Rs) a vss) (via 𝓤 (sem 𝓛 (owns Rs a vss)) (via 𝓤 entry (fst∗ 𝓤 entry ((held z.0.0 a).requires z.1)) (snd∗ 𝓤 (alive 𝓛 ended.signature z.0.0 z.0.1) (sem 𝓛 (owns Rs a vss)))) (owns_show 𝓛 Rs (Ises Rs) (showss 𝓛 Rs) a vss)) (λ are.
        one_value (layout X) (λ xs. Goes z vss.0 xs vss.1.1.0) vss.1.0 (((param_laws 0 X LX).lawful 𝓛).typed a.1.0 vss.1.0 are.1.0) (λ u gu.
        one_value (layout Z) (λ fs. Goes z vss.0 (u ∷ []) fs) vss.1.1.0 (((param_laws 2 Z LZ).lawful 𝓛).typed a.1.1.0 vss.1.1.0 are.1.1.0) (walk z vss.0 u gu))))

pub call_at_spec : {M : Type 1} → stated.statement M
unfolding tables_of
call_at_spec 𝓤 𝓛 𝓜 𝓡 wired X R Z LX LR LZ g d d' met _ =
    let 𝓣 : Tables 𝓤 𝓛.H = tables_of 𝓤 𝓛.H 𝓜 (tables 𝓤 𝓛.H 𝓜 𝓡 𝓡.env) in
    entered 𝓤 𝓛.H (triple_of 𝓛 (F.signature X R Z) (F.spec X R Z g d d' 𝓛 𝓜.mem 𝓡.returns)) 𝓣.C 𝓣.Λ (key.name (args X R Z g d d')) (here X R Z g d d')
    (code.unfolded 𝓤 𝓛.H 𝓜 𝓡 wired (X, (R, (Z, tt))) d d')
    (meets X R Z g d d' LX LR LZ 𝓛 𝓜.mem 𝓡.returns 𝓣 met.1)
