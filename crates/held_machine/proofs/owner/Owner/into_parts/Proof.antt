-- `into_parts` moves what an owner of a machine owns to the parts, as `hold` does the other way.
use Rattle.held_machine.proofs.Steps.{◌≡◌, Option, Some, IsSome, List, [], ◌∷◌, ◌++◌, refl, sym, subst, proved_at}
use Rattle.held_machine.proofs.Steps.{leaves, Val, ent, emp, id⊢, ftrue, fsep, fact, fact_i, tables, WpFn, Item, ⋆, ‵}
use Rattle.held_machine.proofs.Steps.{raw, ◌⊛◌, ◌$◌, ◌∵◌, !, qed, by, move, keep, drop, use0, use1, split, rewrite}
use Rattle.held_machine.proofs.Steps.{fsplit, fjoin, whole, sub, agg, stop, fld, of_opd, no_more, and_then, returns}
use Rattle.held_machine.proofs.Steps.{enter, alloc_all, pass_all, free_all, look_at, get, get_in, sets, yes, heard}
use Rattle.held_machine.proofs.Steps.{nothing, Stays, stay_dropped, walk_of, Goes-dropped, X, D, B, word, box_typed}
use Rattle.held_machine.proofs.Steps.{box_out, box_in}
use Rattle.held_machine.proofs.AsBox.{E, FromOwner, ToParts}
use Rattle.held_machine.proofs.Held.{held_value}
use Rattle.held_machine.specs.Ownership.{owner_owns}
use Rattle.held_machine.specs.contracts.owner.Owner.{the_row}
use Rattle.held_machine.specs.contracts.owner.Owner.into_parts as f
use Rattle.held_machine.proofs.owner.Owner.into_parts.Statement.{statement}
use Rattle.held_machine.proofs.owner.Owner.into_parts.Code as code

abbrev stayed : Stays f.ended.signature.params f.ended.kept
stayed = (stay_dropped FromOwner yes, tt)

pub into_parts_spec : {M : Type 1} → statement M
into_parts_spec 𝓤 𝓛 𝓜 𝓡 wired =
    let c = f.clauses 𝓛 𝓜.mem 𝓡.returns in let 𝓣 = tables 𝓤 𝓛.H 𝓜 𝓡 𝓡.env in let fn = code.function in
    proved_at 𝓛 f.ended stayed c 𝓜 𝓡 (Goes-dropped 𝓛 0 FromOwner yes (λ κs x w. refl), tt)
    f.Key.name fn (code.unfolded 𝓤 𝓛.H 𝓜 𝓡 wired) (λ z are.
    let Post = (walk_of 𝓛 f.ended stayed c).post z in let owner = z.0.3.0 in let Full = IsSome owner.held in
    qed 𝓛 ((‵ ftrue ⊛ ‵ (fsep (the_row.own_val owner z.0.4.0) ftrue)) ∷ raw (fact 𝓤 Full) ∷ []) ∵
    move ! (1 ∷ []) $ heard ! Full (λ full. let has = held_value owner.held full in
    let box : D E = record { ptr = owner.at; alloc = owner.alloc; value = has.0 } in
    let made : ToParts.Denot = record { ptr = owner.at; alloc = owner.alloc; value = has.0 } in
    split ! $ drop ! $ fsplit ! $ fsplit ! $ move ! (1 ∷ []) $
    rewrite ! 0 (λ (held : Option (X E)). ‵ (owner_owns owner.alloc owner.at held)) has.1 refl $ move ! (1 ∷ 0 ∷ []) $
    fjoin ! $ use1 𝓛 (‵ ((B E).own_val box z.0.4.0)) (id⊢ 𝓤 _) $
    box_out E ! box z.0.4.0 (λ b o hv at is fits. box_in E ! box b o has.0 at refl $ keep ! (0 ∷ []) $
    let w = word E hv b o in let Γ : List (Item 𝓤) = ‵ (ToParts.own_val made (w ∷ [])) ∷ [] in
    use1 𝓛 (‵ (ToParts.own_val made (w ∷ []))) (id⊢ 𝓤 _) $
    by ! (subst (λ (us : List Val). ent 𝓤 (⋆ 𝓛 Γ) (WpFn 𝓤 𝓛.H 𝓣.C 𝓣.Λ fn (us ++ []) Post)) (sym is)
    (qed 𝓛 Γ ∵ enter ! 𝓣.C 𝓣.Λ fn (w ∷ []) Post $ alloc_all ! (λ l. pass_all ! refl (box_typed E hv b o fits, tt) $
    sets ! (of_opd ! (get_in ! (fld ! refl (stop !)) (sub ! 0 refl (whole !)))) refl (tt, tt) $
    sets ! (of_opd ! (get_in ! (fld ! refl (stop !)) (sub ! 1 refl (whole !)))) refl fits $
    sets ! (of_opd ! (get ! refl)) refl (tt, tt) $
    sets ! (agg ! (and_then ! (get ! refl) (and_then ! (get ! refl) (no_more !)))) refl (box_typed E hv b o fits) $
    returns ! (look_at ! 0 refl) $ free_all ! refl $
    -- [the parts]
    use0 𝓛 (raw (fact 𝓤 (owner.held ≡ Some has.0))) (fact_i 𝓤 (owner.held ≡ Some has.0) (emp 𝓤) has.1) $
    nothing ! $ nothing ! $ fjoin ! $ nothing ! $ move ! (0 ∷ 1 ∷ 3 ∷ 2 ∷ []) $
    by ! (leaves 𝓛 f.ended stayed c z w made (tt, tt) (tt, tt))))))))
