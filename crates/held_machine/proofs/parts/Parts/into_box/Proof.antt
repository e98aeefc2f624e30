-- `into_box` hands what the parts own to `from_raw`.
use Rattle.held_machine.proofs.Steps.{◌≡◌, List, [], ◌∷◌, ◌++◌, T, refl, sym, ap, subst, proved_at, leaves, Fn}
use Rattle.held_machine.proofs.Steps.{inst_fn, Val, vptr, has_ty, WT, ent, emp, id⊢, ftrue, fsep, flft, ◌⊑◌, fact}
use Rattle.held_machine.proofs.Steps.{fact_i, tables, WpFn, framed, Item, ⋆, at_ret, ‵, raw, ◌⊛◌, some, later, ◌$◌}
use Rattle.held_machine.proofs.Steps.{◌∵◌, !, qed, by, move, drop, use0, use1, join, split, split3, pick, rewrite}
use Rattle.held_machine.proofs.Steps.{fsplit, fjoin, feq_i, await, whole, sub, stop, fld, of_opd, no_more, and_then}
use Rattle.held_machine.proofs.Steps.{returns, enter, first, blocks, exec, alloc_all, pass_all, free_all, look_at}
use Rattle.held_machine.proofs.Steps.{get, get_in, sets, lands_last, env, no, block_ptr, plain, heard, nothing, only}
use Rattle.held_machine.proofs.Steps.{calls_at_last, triple_of, Stays, stay_dropped, walk_of, token, Goes-blank}
use Rattle.held_machine.proofs.Steps.{box_owns, Bx, D, R, P, B, args, box_ty, word, box_typed, box_out, box_in}
use Rattle.std.proofs.VecSteps.Shapes.{after}
use Rattle.std_alloc.specs.contracts.boxed.Box.from_raw as callee
use Rattle.std_alloc.proofs.boxed.Box.from_raw.Met.{met}
use Rattle.held_machine.specs.contracts.parts.Parts as parts
use Rattle.held_machine.specs.contracts.parts.Parts.into_box as f
use Rattle.held_machine.proofs.parts.Parts.into_box.Statement.{statement}
use Rattle.held_machine.proofs.parts.Parts.into_box.Code as code

pub into_box_spec : {M : Type 1} → statement M
into_box_spec 𝓤 𝓛 𝓜 𝓡 wired Y Z LY LZ g d drops allocates frees =
    let E : Bx = record { row = Y; laws = LY; al = record { row = Z; laws = LZ; g = g; d = d; drops = drops } } in
    let 𝓣 = tables 𝓤 𝓛.H 𝓜 𝓡 𝓡.env in let fn : Fn = inst_fn (args E) code.function in
    let Ended = f.ended Y Z g d drops in let c = f.clauses Y Z g d drops 𝓛 𝓜.mem 𝓡.returns in
    let From = plain (λ _. parts.the_row (R E) (P E) g) in
    let stayed : Stays Ended.signature.params Ended.kept = (stay_dropped From no, tt) in
    let G = triple_of 𝓛 (callee.signature Y Z g d drops) (callee.spec Y Z g d drops 𝓛 𝓜.mem 𝓡.returns) in
    let known = met 𝓤 𝓛 𝓜 𝓡 (code.calls-std_alloc::boxed::Box::from_raw 𝓡.env wired) Y Z LY LZ g d drops
    allocates frees in
    proved_at 𝓛 Ended stayed c 𝓜 𝓡 (Goes-blank 𝓛 2 From no (λ κs x w. tt), tt)
    (f.Key.name (args E)) fn (code.unfolded 𝓤 𝓛.H 𝓜 𝓡 wired (Y, (Z, tt)) d drops) (λ z are.
    let κs = z.0.0 in let qs = z.0.1 in let Post = (walk_of 𝓛 Ended stayed c).post z in
    let from = z.0.3.0 in let alloc = from.alloc in let value = from.value in
    let box : D E = record { ptr = from.ptr; alloc = alloc; value = value } in
    let tokens : Item 𝓤 = ‵ (flft κs.0 qs.0) ⊛ ‵ (flft κs.1.0 qs.1.0) ⊛ ‵ ftrue in
    let of_value : Item 𝓤 = raw (fact 𝓤 (κs.0 ⊑ Y.lives)) in
    let of_alloc : Item 𝓤 = raw (fact 𝓤 (κs.1.0 ⊑ Z.lives)) in
    qed 𝓛 ((tokens ⊛ ‵ (fsep ((B E).own_val box z.0.4.0) ftrue)) ∷ (of_value ⊛ of_alloc ⊛ ‵ ftrue) ∷ []) ∵
    split ! $ move ! (1 ∷ []) $ fsplit ! $ box_out E ! box z.0.4.0 (λ b o hv at is fits. fjoin ! $
    let w = word E hv b o in
    let y : G.Ghost = ((κs, qs, tt, (alloc, (block_ptr b o, tt)), (hv ∷ [], (vptr b o ∷ [], tt))), value) in
    let Γ : List (Item 𝓤) = ‵ (box_owns (token E.al alloc) (R E) (block_ptr b o) value)
    ∷ ‵ ((P E).own_val alloc (hv ∷ []))
    ∷ ‵ ftrue ∷ tokens ∷ (of_value ⊛ of_alloc ⊛ ‵ ftrue) ∷ [] in
    by ! (subst (λ (us : List Val). ent 𝓤 (⋆ 𝓛 Γ) (WpFn 𝓤 𝓛.H 𝓣.C 𝓣.Λ fn (us ++ []) Post)) (sym is)
    (qed 𝓛 Γ ∵ enter ! 𝓣.C 𝓣.Λ fn (w ∷ []) Post $ alloc_all ! (λ l. pass_all ! refl (box_typed E hv b o fits, tt) $
    let Env = env fn.locals l in
    sets ! (of_opd ! (get_in ! (fld ! refl (stop !)) (sub ! 0 refl (whole !)))) refl (tt, tt) $
    sets ! (of_opd ! (get_in ! (fld ! refl (stop !)) (sub ! 1 refl (whole !)))) refl fits $
    first ! $ blocks ! $ sets ! (of_opd ! (get ! refl)) refl fits $
    -- what `from_raw` takes: the tokens, the handle and the pointer, and the machine
    move ! (4 ∷ []) $ split3 ! $ move ! (2 ∷ []) $ drop ! $ move ! (1 ∷ 2 ∷ []) $ join ! $ move ! (1 ∷ 0 ∷ []) $
    join ! $
    move ! (2 ∷ []) $ feq_i ! (List Val) (vptr b o ∷ []) (vptr b o ∷ []) refl $ fjoin ! $ move ! (2 ∷ 0 ∷ []) $
    fjoin ! $ move ! (2 ∷ 0 ∷ []) $ join ! $ join ! $ use1 𝓛 (raw (G.pre y)) (id⊢ 𝓤 _) $
    calls_at_last ! (framed 𝓤 𝓛.H 𝓜 𝓣) G known y (and_then ! (get ! refl) (and_then ! (get ! refl) (no_more !))) (λ v.
    use1 𝓛 (later (some (λ (r : D E). (tokens ⊛ ‵ ((B E).own_val r (v ∷ []))) ⊛
    some (λ (_ : Unit {0} × (Unit {0} × Unit {0})). ‵ (fsep ftrue (fsep ftrue ftrue)) ⊛
    (raw (fact 𝓤 (r.value ≡ value)) ⊛ raw (fact 𝓤 (r.alloc ≡ alloc))))))) (id⊢ 𝓤 _) $
    await ! tt $ pick ! (λ r. split ! $ move ! (1 ∷ []) $ pick ! (λ _. split3 ! $ drop ! $
    heard ! (r.value ≡ value) (λ same.
    drop ! $ split ! $ move ! (1 ∷ []) $
    box_out E ! r (v ∷ []) (λ b' o' hv' at' is' fits'. box_in E ! r b' o' r.value at' refl $
    rewrite ! 0 (λ (us : List Val). ‵ ((B E).own_val r us)) (sym is') refl $
    let typed : T (has_ty (box_ty E) v) × WT v =
    subst (λ (s : Val). T (has_ty (box_ty E) s) × WT s) (sym (ap only is')) (box_typed E hv' b' o' fits') in
    lands_last ! refl typed $ exec ! 𝓣.C 𝓣.Λ Env (after 3 fn.body) (at_ret Env Post) $
    sets ! (of_opd ! (get ! refl)) refl typed $ returns ! (look_at ! 0 refl) $ free_all ! refl $
    -- [the box; the tokens]
    use0 𝓛 (raw (fact 𝓤 (r.value ≡ value))) (fact_i 𝓤 (r.value ≡ value) (emp 𝓤) same) $
    nothing ! $ nothing ! $ fjoin ! $ move ! (3 ∷ 0 ∷ 2 ∷ 1 ∷ []) $
    by ! (leaves 𝓛 Ended stayed c z v r ((tt, (tt, tt)), tt) (tt, tt))))))))))))
