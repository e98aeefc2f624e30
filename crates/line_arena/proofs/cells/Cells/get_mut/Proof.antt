-- The value of a place is lent, and the owner of the places follows it.
use Rattle.std.specs.Prelude.{◌≡◌, ◌+◌, ◌*◌, List, [], ◌∷◌, get_or, Some, None}
use Rattle.std.proofs.Common.{refl, ◌∙◌}
use base.Fraction.{full_share}
use base.Logic.{SProp, emp, id⊢}
use base.Fml.{GName, ftrue, fat, flft}
use mir.Syntax.{named, w64}
use mir.MapTy.{inst_fn}
use mir.Val.{Val, vptr, vint}
use contract.Monad.{fact, fact_i}
use contract.Running.{tables}
use contract.BorrowLft.{◌⊑◌}
use types.Kit.{‵, raw, ◌⊛◌, some, later, await, group, at_ret, ◌$◌, ◌∵◌, !, qed, by, move, keep, drop, use0, use1}
use types.Kit.{split, split3, join, pick, rewrite, fsplit, fsplit3, fjoin, fjoin3}
use types.Run.{stop, fld, of_opd, bin, size_lit, addr, first, blocks, exec, returns, enter}
use types.ByLocal.{alloc_all, pass_all, free_all, look_at, get, get_in, take_at, give_at, through, sets, sets_last}
use types.ByLocal.{env}
use types.Part.{whole, sub}
use denote.Exit.{yes, no}
use denote.Builtin.{usize}
use denote.Param.{layout}
use denote.Plain.{uint_vals, uint_Tells}
use denote.RattleType.{owns}
use denote.RawPtr.{Ptr}
use denote.Ref.{MutBor, MutRef, mut_vals, mut_Tells}
use denote.Follow.{follows, Part, lends_Part}
use denote.Signature.{plain, types_at, mut_ref_to}
use denote.Steps.{nothing, heard}
use denote.Triple.Walked.{Stays, stay_dropped, walk_of, Goes-dropped, Goes-spent_ref}
use types.Logic.{sem}
use Rattle.std.proofs.raw_atomic.Walks.{proved, leaves}
use Rattle.core.proofs.mem.Param.{El, R, args, el_x}
use Rattle.std_alloc.proofs.VecSteps.Shapes.{after}
use Rattle.line_arena.specs.Filled.{IsFilled}
use Rattle.line_arena.specs.Ownership.{slot_at}
use Rattle.line_arena.proofs.Row.{CellsRow, BaseRow, Place, width, base_val, base_vals, base_tells, base_good}
use Rattle.line_arena.proofs.Row.{filled_within}
use Rattle.line_arena.proofs.OpenedPlaces.{put, opens_place, Rest, comes_back}
use Rattle.line_arena.specs.contracts.cells.Cells.get_mut.{ended, clauses}
use Rattle.line_arena.specs.contracts.cells.Cells.get_mut.Key.{name as key}
use Rattle.line_arena.proofs.cells.Cells.get_mut.Statement.{statement}
use Rattle.line_arena.proofs.cells.Cells.get_mut.Code as code

pub get_mut_spec : {M : Type 1} → statement M
get_mut_spec 𝓤 𝓛 𝓜 𝓡 wired X L =
    let E : El = record { row = X; laws = L } in let H = 𝓛.H in let 𝓣 = tables 𝓤 H 𝓜 𝓡 𝓡.env in
    let fn = inst_fn (args E) code.function in let T = ended X in let c = clauses X 𝓛 𝓜.mem 𝓡.returns in
    let owner = plain (λ _. CellsRow E) in let base = plain (λ _. BaseRow E) in let word = plain (λ _. usize) in
    let stays : Stays T.signature.params T.kept =
    (stay_dropped (mut_ref_to (0 ∷ []) tt owner) no, (stay_dropped base no, (stay_dropped word yes, tt))) in
    proved 𝓛 T stays c 𝓜 𝓡 (
      Goes-spent_ref 𝓛 2 (0 ∷ []) tt owner,
      (
        Goes-dropped 𝓛 2 base no (λ κs x f. refl),
        (Goes-dropped 𝓛 2 word yes (λ κs x f. refl), tt),
      ),
    )
    (key (args E)) fn (code.unfolded 𝓤 H 𝓜 𝓡 wired (X, tt))
    (λ κs. (mut_vals, (base_vals E, (uint_vals w64, tt))))
    (λ κs. (mut_Tells (named 0) κs.0 (CellsRow E), (base_tells E, (uint_Tells w64, tt))))
    (λ κs qs bounds a gh are.
    let κ = κs.0 in let q = qs.0 in let rb = a.0.ref_ptr.0 in let ro = a.0.ref_ptr.1 in let γ = a.0.ghost_name in
    let d = a.0.now in
    let p = a.1.0.ptr in let i = a.1.1.0 in let passed : List Val = vptr rb ro ∷ base_val p ∷ vint w64 i ∷ [] in
    let y : (walk_of 𝓛 T stays c).Ghost =
    ((κs, qs, bounds, a, (vptr rb ro ∷ [], (base_vals E a.1.0, (vint w64 i ∷ [], tt)))), gh) in
    let Post : Val → SProp 𝓤 = (walk_of 𝓛 T stays c).post y in let others = ‵ (flft κs.1.0 qs.1.0) ⊛ ‵ ftrue in
    qed 𝓛 (((‵ (flft κ q) ⊛ others) ⊛ ‵ (owns (types_at T.signature.params κs) a y.0.4)) ∷ raw
    ((c κs a).requires gh) ∷ []) ∵
    move ! (1 ∷ []) $
    use1 𝓛 (raw (fact 𝓤 (κs.1.0 ⊑ X.lives)) ⊛ raw (fact 𝓤 (p ≡ d.at)) ⊛ raw (fact 𝓤 (IsFilled d.slots i))) (id⊢ 𝓤 _) $
    split3 ! $ drop ! $ heard ! _ (λ at. heard ! _ (λ filled. let x = filled.0 in let within =
    filled_within d.slots i filled in
    split ! $ move ! (1 ∷ []) $ fsplit ! $ fsplit3 ! $ move ! (4 ∷ []) $ split ! $ keep ! (3 ∷ 4 ∷ 0 ∷ 1 ∷ []) $
    enter ! 𝓣.C 𝓣.Λ fn passed Post $
    alloc_all ! (λ l. pass_all ! refl ((tt, tt), (base_good E p, ((tt, record { fits = are.1.1.0.1 }), tt))) $
    opens_place E 𝓛 κ q γ rb ro d i ! tt within (λ vs b o e reach.
    let there = i * width E + o in
    take_at ! 2 $ rewrite ! 0 (λ (r : Ptr). ‵ (fat full_share (layout (BaseRow E)) (l 2) 0 (base_val r))) (at ∙ e)
    refl $
    give_at ! 2 $
    first ! $ blocks ! $
    sets ! (bin ! (get ! refl) (size_lit ! (record { fits = reach.one })) (record { fits = reach.far })) refl
    (tt, record { fits = reach.far }) $
    sets ! (bin ! (get_in ! (fld ! refl (stop !)) (sub ! 0 refl (whole !))) (get ! refl) tt) refl (tt, tt) $
    rewrite ! 0 (λ (s : Place E). ‵ (slot_at (R E) b there s)) filled.1 refl $
    sets_last ! (addr ! (through ! refl (stop !))) refl (tt, tt) $
    exec ! 𝓣.C 𝓣.Λ (env fn.locals l) (after 1 fn.body) (at_ret _ Post) $ sets ! (of_opd ! (get ! refl)) refl (tt, tt)
    $
    let rest = Rest E 𝓛 κ q γ rb ro d i b o vs in let back =
    comes_back E 𝓛 κ q γ rb ro d i within reach.short vs b o e in
    let lent = λ (w : el_x E). put E d i (Some w) in let gv = (CellsRow E).coded.code d in
    move ! (1 ∷ 2 ∷ 3 ∷ []) $ fjoin3 ! $ move ! (2 ∷ 3 ∷ 4 ∷ 1 ∷ 0 ∷ []) $ group ! 5 $
    use1 𝓛 (later
    (some (λ (δ : GName). raw (Part 𝓛 (CellsRow E) (R E) lent (named 0) κ q rb ro b there γ
    (sem 𝓛 rest) back x δ))))
    (lends_Part 𝓛 (CellsRow E) (R E) lent (named 0) κ q rb ro b there γ (sem 𝓛 rest) back gv gv x)
    $ await ! tt $ pick ! (λ δ.
    let r : MutBor (el_x E) = record { ref_ptr = (b, there); ghost_name = δ; now = x } in
    use1 𝓛 (‵ ((MutRef (named 0) κ (R E)).own_val r (vptr b there ∷ [])) ⊛ ‵ (flft κ q) ⊛ ‵
    (follows (CellsRow E) (R E) γ δ lent)) (id⊢ 𝓤 _) $ split3 ! $
    returns ! (look_at ! 0 refl) $ free_all ! refl $
    -- [the `&mut` to the value; the token; what the owner becomes; the other tokens]
    move ! (1 ∷ 3 ∷ []) $ join ! $ use0 𝓛 (raw (fact 𝓤 (get_or d.slots i None ≡ Some x)))
    (fact_i 𝓤 _ (emp 𝓤) filled.1) $
    move ! (3 ∷ 0 ∷ []) $ join ! $
    nothing ! $ nothing ! $ fjoin ! $ nothing ! $ fjoin ! $ nothing ! $ fjoin ! $ move ! (2 ∷ 0 ∷ 3 ∷ 1 ∷ []) $
    by ! (leaves 𝓛 T stays c y (vptr b there) r (tt, (tt, (tt, tt))) (tt, (tt, (tt, tt))))))))))
