-- `none` makes the owner of nothing: a null pointer beside the handle to the allocator.
use Rattle.held_machine.proofs.Steps.{◌≡◌, None, List, [], ◌∷◌, ◌++◌, refl, sym, subst, lit<, w64, proved_at, leaves}
use Rattle.held_machine.proofs.Steps.{Val, vint, vstruct, vcons, vnil, has_ty, ent, emp, id⊢, ftrue, fsep, fact}
use Rattle.held_machine.proofs.Steps.{fact_i, tables, WpFn, Item, ⋆, ‵, raw, ◌⊛◌, ◌$◌, ◌∵◌, !, qed, by, move, keep}
use Rattle.held_machine.proofs.Steps.{drop, use0, use1, split, fsplit, fjoin, fpack, feq_i, agg, lit, no_more}
use Rattle.held_machine.proofs.Steps.{and_then, returns, enter, alloc_all, pass_all, free_all, look_at, get, sets}
use Rattle.held_machine.proofs.Steps.{yes, Valss, RawPtr, null_ptr, ptr_val, plain, nothing, shape, to, within, Stays}
use Rattle.held_machine.proofs.Steps.{stay_dropped, walk_of, Goes-dropped, α, handle_tells, P, and_tt}
use Rattle.held_machine.proofs.AsBox.{E}
use Rattle.std_heap.specs.contracts.Global as heap
use Rattle.held_machine.specs.contracts.owner.Owner as owner
use Rattle.held_machine.specs.contracts.owner.Owner.none as f
use Rattle.held_machine.proofs.owner.Owner.none.Statement.{statement}
use Rattle.held_machine.proofs.owner.Owner.none.Code as code

abbrev stayed : Stays f.ended.signature.params f.ended.kept
stayed = (stay_dropped (plain (λ _. heap.the_row)) yes, tt)

pub none_spec : {M : Type 1} → statement M
none_spec 𝓤 𝓛 𝓜 𝓡 wired =
    let c = f.clauses 𝓛 𝓜.mem 𝓡.returns in let 𝓣 = tables 𝓤 𝓛.H 𝓜 𝓡 𝓡.env in let fn = code.function in
    proved_at 𝓛 f.ended stayed c 𝓜 𝓡 (Goes-dropped 𝓛 0 (plain (λ _. heap.the_row)) yes (λ κs x w. refl), tt)
    f.Key.name fn (code.unfolded 𝓤 𝓛.H 𝓜 𝓡 wired) (λ z are.
    let Post = (walk_of 𝓛 f.ended stayed c).post z in let alloc = z.0.3.0 in
    let To = owner.the_row in let made : To.Denot = record { at = null_ptr; alloc = alloc; held = None } in
    qed 𝓛 ((‵ ftrue ⊛ ‵ (fsep ((P E).own_val alloc z.0.4.0) ftrue)) ∷ raw (emp 𝓤) ∷ []) ∵ split ! $ drop ! $ fsplit ! $
    handle_tells E.al ! alloc z.0.4.0 (λ hv is fits. keep ! (0 ∷ []) $
    let null = vint w64 0 in let w = vstruct (vcons null (vcons hv vnil)) in
    let Γ : List (Item 𝓤) = ‵ ((P E).own_val alloc (hv ∷ [])) ∷ [] in
    by ! (subst (λ (us : List Val). ent 𝓤 (⋆ 𝓛 Γ) (WpFn 𝓤 𝓛.H 𝓣.C 𝓣.Λ fn (us ++ []) Post)) (sym is)
    (qed 𝓛 Γ ∵ enter ! 𝓣.C 𝓣.Λ fn (hv ∷ []) Post $ alloc_all ! (λ l. pass_all ! refl (fits, tt) $
    sets ! (agg ! (and_then ! (lit ! tt) (and_then ! (get ! refl) (no_more !)))) refl
    (and_tt (has_ty (α E.al) hv) fits.0, (record { fits = lit< tt }, (fits.1, tt))) $
    returns ! (look_at ! 0 refl) $ free_all ! refl $
    -- [the handle], with which the fields are whole
    nothing ! $ move ! (1 ∷ 0 ∷ []) $ fjoin ! $ feq_i ! (List Val) (null ∷ []) (ptr_val null_ptr ∷ []) refl $ fjoin ! $
    feq_i ! (List Val) (w ∷ []) (w ∷ []) refl $ fjoin ! $
    fpack ! (Valss (RawPtr ∷ heap.the_field.row ∷ [])) (within (shape owner.the_type) (to owner.the_type made) (w ∷ []))
    (null ∷ [], (hv ∷ [], tt)) $
    nothing ! $ move ! (1 ∷ 0 ∷ []) $ fjoin ! $ use1 𝓛 (‵ (To.own_val made (w ∷ []))) (id⊢ 𝓤 _) $
    use0 𝓛 (raw (fact 𝓤 (made.held ≡ None))) (fact_i 𝓤 (made.held ≡ None) (emp 𝓤) refl) $
    nothing ! $ nothing ! $ fjoin ! $ nothing ! $ move ! (0 ∷ 1 ∷ 3 ∷ 2 ∷ []) $
    by ! (leaves 𝓛 f.ended stayed c z w made (tt, tt) (tt, tt)))))))
