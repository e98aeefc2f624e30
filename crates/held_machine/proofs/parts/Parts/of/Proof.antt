-- `of` takes the pair of a pointer and a handle from `into_raw_with_allocator`, with what the box owned.
use Rattle.held_machine.proofs.Steps.{◌≡◌, List, [], ◌∷◌, ◌++◌, refl, sym, ap, subst, ◌∙◌, proved_at, leaves, Fn}
use Rattle.held_machine.proofs.Steps.{Args, a_type, dcons, dnil, inst_fn, bare, Val, vstruct, of_list, ent, emp, id⊢}
use Rattle.held_machine.proofs.Steps.{never, fst∗, ftrue, fsep, flft, ◌⊑◌, fact, fact_i, tables, WpFn, framed, sem}
use Rattle.held_machine.proofs.Steps.{Item, ⋆, ‵, raw, ◌⊛◌, some, later, ◌$◌, ◌∵◌, !, qed, by, move, drop, use0, use1}
use Rattle.held_machine.proofs.Steps.{join, split, split3, pick, rewrite, fsplit, fjoin, fpick, feq_l, await, whole}
use Rattle.held_machine.proofs.Steps.{sub, agg, stop, fld, of_opd, no_more, and_then, returns, enter, alloc_all}
use Rattle.held_machine.proofs.Steps.{pass_all, free_all, look_at, get, get_in, sets, lands_as, no, bounded, Ptr}
use Rattle.held_machine.proofs.Steps.{RawPtr, block_ptr, null_ptr, ptr_val, in_a_block, plain, heard, nothing, only}
use Rattle.held_machine.proofs.Steps.{Tuple, calls_at, triple_of, Stays, stay_dropped, walk_of, token, handle_tells}
use Rattle.held_machine.proofs.Steps.{Goes-blank, box_owns, Bx, D, R, P, B, τ, word, box_typed, box_out, box_in}
use Rattle.std_alloc.specs.contracts.boxed.Box.into_raw_with_allocator as callee
use Rattle.std_alloc.proofs.boxed.Box.into_raw_with_allocator.Met.{met}
use Rattle.held_machine.specs.contracts.parts.Parts as parts
use Rattle.held_machine.specs.contracts.parts.Parts.of as f
use Rattle.held_machine.proofs.parts.Parts.of.Statement.{statement}
use Rattle.held_machine.proofs.parts.Parts.of.Code as code

pub of_spec : {M : Type 1} → statement M
of_spec 𝓤 𝓛 𝓜 𝓡 wired Y Z LY LZ g d drops drops_value allocates frees glue =
    let E : Bx = record { row = Y; laws = LY; al = record { row = Z; laws = LZ; g = g; d = d; drops = drops } } in
    let types : Args = bounded (a_type ∷ a_type ∷ []) (Y, (Z, tt)) (dcons d (dcons drops (dcons drops_value dnil))) in
    let 𝓣 = tables 𝓤 𝓛.H 𝓜 𝓡 𝓡.env in let fn : Fn = inst_fn types code.function in
    let Ended = f.ended Y Z g d drops drops_value in let c = f.clauses Y Z g d drops drops_value 𝓛 𝓜.mem 𝓡.returns in
    let From = plain (λ _. B E) in let stayed : Stays Ended.signature.params Ended.kept = (stay_dropped From no, tt) in
    let G = triple_of 𝓛 (callee.signature Y Z g d drops drops_value)
    (callee.spec Y Z g d drops drops_value 𝓛 𝓜.mem 𝓡.returns) in
    let known = met 𝓤 𝓛 𝓜 𝓡 (code.calls-std_alloc::boxed::Box::into_raw_with_allocator 𝓡.env wired) Y Z LY LZ g d drops
    drops_value allocates frees glue in
    proved_at 𝓛 Ended stayed c 𝓜 𝓡 (Goes-blank 𝓛 2 From no (λ κs x w. tt), tt)
    (f.Key.name types) fn (code.unfolded 𝓤 𝓛.H 𝓜 𝓡 wired (Y, (Z, tt)) d drops drops_value) (λ z are.
    let κs = z.0.0 in let qs = z.0.1 in let Post = (walk_of 𝓛 Ended stayed c).post z in
    let from = z.0.3.0 in let alloc = from.alloc in let value = from.value in let To = parts.the_row (R E) (P E) g in
    let tokens : Item 𝓤 = ‵ (flft κs.0 qs.0) ⊛ ‵ (flft κs.1.0 qs.1.0) ⊛ ‵ ftrue in
    let within : Item 𝓤 = raw (fact 𝓤 (κs.0 ⊑ Y.lives)) ⊛ raw (fact 𝓤 (κs.1.0 ⊑ Z.lives)) ⊛ ‵ ftrue in
    qed 𝓛 ((tokens ⊛ ‵ (fsep ((B E).own_val from z.0.4.0) ftrue)) ∷ within ∷ []) ∵
    split ! $ move ! (1 ∷ []) $ fsplit ! $
    box_out E ! from z.0.4.0 (λ b o hv at is fits. box_in E ! from b o value at refl $ let w = word E hv b o in
    let y : G.Ghost = ((κs, qs, tt, (from, tt), (w ∷ [], tt)), tt) in
    let Γ : List (Item 𝓤) = ‵ ((B E).own_val from (w ∷ [])) ∷ ‵ ftrue ∷ tokens ∷ within ∷ [] in
    by ! (subst (λ (us : List Val). ent 𝓤 (⋆ 𝓛 Γ) (WpFn 𝓤 𝓛.H 𝓣.C 𝓣.Λ fn (us ++ []) Post)) (sym is)
    (qed 𝓛 Γ ∵ enter ! 𝓣.C 𝓣.Λ fn (w ∷ []) Post $ alloc_all ! (λ l. pass_all ! refl (box_typed E hv b o fits, tt) $
    sets ! (of_opd ! (get ! refl)) refl (box_typed E hv b o fits) $
    fjoin ! $ move ! (1 ∷ 0 ∷ []) $ join ! $ join ! $ use1 𝓛 (raw (G.pre y)) (id⊢ 𝓤 _) $
    calls_at ! (framed 𝓤 𝓛.H 𝓜 𝓣) G known y (and_then ! (get ! refl) (no_more !)) (λ v.
    use1 𝓛 (later (some (λ (r : Ptr × Z.Denot). (tokens ⊛ ‵ ((Tuple (RawPtr ∷ P E ∷ [])).own_val r (v ∷ []))) ⊛
    some (λ (_ : (Unit {0} × (Unit {0} × Unit {0})) × Unit {0}). ‵ (fsep (fsep ftrue (fsep ftrue ftrue)) ftrue) ⊛
    (raw (fact 𝓤 (r.1 ≡ alloc)) ⊛ ‵ (box_owns (token E.al alloc) (R E) r.0 value)))))) (id⊢ 𝓤 _) $
    await ! tt $ pick ! (λ r. split ! $ move ! (1 ∷ []) $ pick ! (λ _. split3 ! $ drop ! $ heard ! (r.1 ≡ alloc) (λ its.
    in_a_block ! r.0 (λ p. box_owns (token E.al alloc) (R E) p value)
    (fst∗ 𝓤 (never 𝓤) (sem 𝓛 (token E.al alloc (bare (τ E)) null_ptr))) (λ b' o' at'.
    -- the pair in its parts: [the handle; nothing; the tokens; the value and the right to free it]
    move ! (1 ∷ []) $ split ! $ move ! (1 ∷ []) $ fpick ! (λ vss. fsplit ! $ feq_l ! (λ pair. fsplit ! $
    feq_l ! (λ pointer.
    fsplit ! $ rewrite ! 0 (λ (s : Z.Denot). ‵ (Z.own_val s vss.1.0)) its refl $
    handle_tells E.al ! alloc vss.1.0 (λ hv' is' fits'. let w' = word E hv' b' o' in
    let box : D E = record { ptr = block_ptr b' o'; alloc = alloc; value = value } in
    let made : To.Denot = record { ptr = block_ptr b' o'; alloc = alloc; value = value } in
    let words : vss.0 ≡ ptr_val (block_ptr b' o') ∷ [] = pointer ∙ ap (λ (p : Ptr). ptr_val p ∷ []) at' in
    lands_as ! (ap only (pair ∙ (λ j. vstruct (of_list (words j ++ (is' j ++ []))) ∷ []))) refl
    (box_typed E hv' b' o' fits') $
    sets ! (of_opd ! (get_in ! (fld ! refl (stop !)) (sub ! 0 refl (whole !)))) refl (tt, tt) $
    sets ! (of_opd ! (get_in ! (fld ! refl (stop !)) (sub ! 1 refl (whole !)))) refl fits' $
    sets ! (of_opd ! (get ! refl)) refl fits' $
    sets ! (agg ! (and_then ! (get ! refl) (and_then ! (get ! refl) (no_more !)))) refl (box_typed E hv' b' o' fits') $
    returns ! (look_at ! 0 refl) $ free_all ! refl $
    move ! (3 ∷ []) $ fsplit ! $ box_in E ! box b' o' value refl refl $
    use1 𝓛 (‵ (To.own_val made (w' ∷ []))) (id⊢ 𝓤 _) $
    move ! (1 ∷ []) $ drop ! $
    -- [the parts; the tokens]
    use0 𝓛 (raw (fact 𝓤 (made.value ≡ value))) (fact_i 𝓤 (made.value ≡ value) (emp 𝓤) refl) $
    nothing ! $ nothing ! $ fjoin ! $ move ! (3 ∷ 0 ∷ 2 ∷ 1 ∷ []) $
    by ! (leaves 𝓛 Ended stayed c z w' made ((tt, (tt, tt)), tt) (tt, tt))))))))))))))))
