-- `hold` moves what the parts own to the owner: the pointer, cast, and the handle to the allocator.
use Rattle.held_machine.proofs.Steps.{◌≡◌, Some, List, [], ◌∷◌, ◌++◌, refl, sym, subst, proved_at, leaves, Val, ent}
use Rattle.held_machine.proofs.Steps.{emp, id⊢, ftrue, fsep, fact, fact_i, tables, WpFn, Item, ⋆, ‵, raw, ◌⊛◌, ◌$◌}
use Rattle.held_machine.proofs.Steps.{◌∵◌, !, qed, by, keep, drop, use0, use1, split, fsplit, fjoin, whole, sub, agg}
use Rattle.held_machine.proofs.Steps.{stop, fld, of_opd, no_more, and_then, returns, enter, alloc_all, pass_all}
use Rattle.held_machine.proofs.Steps.{free_all, look_at, get, get_in, sets, yes, nothing, Stays, stay_dropped}
use Rattle.held_machine.proofs.Steps.{walk_of, Goes-dropped, D, B, word, box_typed, box_out, box_in, move}
use Rattle.held_machine.proofs.AsBox.{E, FromParts}
use Rattle.held_machine.specs.contracts.owner.Owner.{the_row as To}
use Rattle.held_machine.specs.contracts.owner.Owner.hold as f
use Rattle.held_machine.proofs.owner.Owner.hold.Statement.{statement}
use Rattle.held_machine.proofs.owner.Owner.hold.Code as code

abbrev stayed : Stays f.ended.signature.params f.ended.kept
stayed = (stay_dropped FromParts yes, tt)

pub hold_spec : {M : Type 1} → statement M
hold_spec 𝓤 𝓛 𝓜 𝓡 wired =
    let c = f.clauses 𝓛 𝓜.mem 𝓡.returns in let 𝓣 = tables 𝓤 𝓛.H 𝓜 𝓡 𝓡.env in let fn = code.function in
    proved_at 𝓛 f.ended stayed c 𝓜 𝓡 (Goes-dropped 𝓛 0 FromParts yes (λ κs x w. refl), tt)
    f.Key.name fn (code.unfolded 𝓤 𝓛.H 𝓜 𝓡 wired) (λ z are.
    let Post = (walk_of 𝓛 f.ended stayed c).post z in let parts = z.0.3.0 in
    let box : D E = record { ptr = parts.ptr; alloc = parts.alloc; value = parts.value } in
    let made : To.Denot = record { at = parts.ptr; alloc = parts.alloc; held = Some parts.value } in
    qed 𝓛 ((‵ ftrue ⊛ ‵ (fsep ((B E).own_val box z.0.4.0) ftrue)) ∷ raw (emp 𝓤) ∷ []) ∵ split ! $ drop ! $ fsplit ! $
    box_out E ! box z.0.4.0 (λ b o hv at is fits. box_in E ! box b o parts.value at refl $ keep ! (0 ∷ []) $
    let w = word E hv b o in let Γ : List (Item 𝓤) = ‵ (To.own_val made (w ∷ [])) ∷ [] in
    use1 𝓛 (‵ (To.own_val made (w ∷ []))) (id⊢ 𝓤 _) $
    by ! (subst (λ (us : List Val). ent 𝓤 (⋆ 𝓛 Γ) (WpFn 𝓤 𝓛.H 𝓣.C 𝓣.Λ fn (us ++ []) Post)) (sym is)
    (qed 𝓛 Γ ∵ enter ! 𝓣.C 𝓣.Λ fn (w ∷ []) Post $ alloc_all ! (λ l. pass_all ! refl (box_typed E hv b o fits, tt) $
    sets ! (of_opd ! (get_in ! (fld ! refl (stop !)) (sub ! 0 refl (whole !)))) refl (tt, tt) $
    sets ! (of_opd ! (get_in ! (fld ! refl (stop !)) (sub ! 1 refl (whole !)))) refl fits $
    sets ! (of_opd ! (get ! refl)) refl (tt, tt) $
    sets ! (agg ! (and_then ! (get ! refl) (and_then ! (get ! refl) (no_more !)))) refl (box_typed E hv b o fits) $
    returns ! (look_at ! 0 refl) $ free_all ! refl $
    -- [the owner]
    use0 𝓛 (raw (fact 𝓤 (made.held ≡ Some parts.value))) (fact_i 𝓤 (made.held ≡ Some parts.value) (emp 𝓤) refl) $
    nothing ! $ nothing ! $ fjoin ! $ nothing ! $ move ! (0 ∷ 1 ∷ 3 ∷ 2 ∷ []) $
    by ! (leaves 𝓛 f.ended stayed c z w made (tt, tt) (tt, tt)))))))
