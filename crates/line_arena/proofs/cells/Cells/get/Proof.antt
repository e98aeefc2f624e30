-- A `&` to the row shows the value of one place.
use Rattle.std.specs.Prelude.{◌≡◌, ◌+◌, ◌*◌, ◌<◌, ◌^◌, List, [], ◌∷◌, length, get_or, Some, None}
use Rattle.std.proofs.Common.{refl, ◌∙◌, arith}
use base.Logic.{SProp, emp, id⊢, never}
use base.Fml.{ftrue, flft}
use mir.Syntax.{named, w64}
use mir.MapTy.{inst_fn}
use mir.Val.{Val, vptr, vint}
use contract.Monad.{fact, fact_i}
use prog.Wp.{WpFn}
use contract.Running.{tables}
use contract.BorrowLft.{◌⊑◌}
use types.Kit.{‵, raw, prop, ◌⊛◌, at_ret, regoal, use0, split3, ◌$◌, ◌∵◌, !, qed, by, move, keep, drop, use1, split}
use types.Kit.{rewrite, fsplit, fjoin, feq_i, flt_l}
use types.Run.{stop, fld, of_opd, addr, bin, size_lit, first, blocks, exec, returns, enter}
use types.ByLocal.{alloc_all, pass_all, free_all, look_at, get, get_in, through, sets, sets_last, env}
use types.Part.{whole, sub}
use denote.Exit.{yes, no}
use denote.Builtin.{RefOf, usize}
use denote.Opens.{hide, unhide}
use denote.Plain.{uint_vals, uint_Tells}
use denote.RattleType.{owns}
use denote.RawPtr.{Ptr, block_ptr, in_a_block}
use denote.Ref.{shr_vals, shr_Tells}
use denote.Signature.{plain, types_at}
use denote.Steps.{nothing, heard}
use denote.Triple.Walked.{Stays, stay_dropped, walk_of, Goes-dropped}
use Rattle.std.proofs.raw_atomic.Walks.{proved, leaves}
use Rattle.core.proofs.mem.Param.{El, R, args}
use Rattle.core.proofs.ptr.Rows.{times_below, one_below}
use Rattle.std_alloc.proofs.VecSteps.Shapes.{after}
use Rattle.line_arena.specs.Filled.{IsFilled}
use Rattle.line_arena.specs.Ownership.{lent_slot_at, lent_row_at}
use Rattle.line_arena.proofs.Row.{CellsRow, BaseRow, Place, width, base_val, base_vals, base_tells, base_good}
use Rattle.line_arena.proofs.Row.{filled_within, slot_seen}
use Rattle.line_arena.specs.contracts.cells.Cells.get.{ended, clauses}
use Rattle.line_arena.specs.contracts.cells.Cells.get.Key.{name as key}
use Rattle.line_arena.proofs.cells.Cells.get.Statement.{statement}
use Rattle.line_arena.proofs.cells.Cells.get.Code as code

pub get_spec : {M : Type 1} → statement M
get_spec 𝓤 𝓛 𝓜 𝓡 wired X L =
    let E : El = record { row = X; laws = L } in let H = 𝓛.H in let 𝓣 = tables 𝓤 H 𝓜 𝓡 𝓡.env in
    let fn = inst_fn (args E) code.function in let T = ended X in let c = clauses X 𝓛 𝓜.mem 𝓡.returns in
    let self = RefOf (0 ∷ []) tt (plain (λ _. CellsRow E)) (λ _. tt) in let base = plain (λ _. BaseRow E) in
    let word = plain (λ _. usize) in
    let stays : Stays T.signature.params T.kept =
    (stay_dropped self yes, (stay_dropped base no, (stay_dropped word yes, tt))) in
    proved 𝓛 T stays c 𝓜 𝓡 (
      Goes-dropped 𝓛 2 self yes (λ κs x f. refl),
      (
        Goes-dropped 𝓛 2 base no (λ κs x f. refl),
        (Goes-dropped 𝓛 2 word yes (λ κs x f. refl), tt),
      ),
    )
    (key (args E)) fn (code.unfolded 𝓤 H 𝓜 𝓡 wired (X, tt))
    (λ κs. (shr_vals, (base_vals E, (uint_vals w64, tt))))
    (λ κs. (shr_Tells (named 0) κs.0 (CellsRow E), (base_tells E, (uint_Tells w64, tt))))
    (λ κs qs bounds a gh are.
    let κ = κs.0 in let rb = a.0.ref_ptr.0 in let ro = a.0.ref_ptr.1 in let d = a.0.now in let p = a.1.0.ptr in
    let i = a.1.1.0 in let s = width E in
    let passed : Ptr → List Val = λ r. vptr rb ro ∷ base_val r ∷ vint w64 i ∷ [] in
    let y : (walk_of 𝓛 T stays c).Ghost =
    ((κs, qs, bounds, a, (vptr rb ro ∷ [], (base_vals E a.1.0, (vint w64 i ∷ [], tt)))), gh) in
    let Post : Val → SProp 𝓤 = (walk_of 𝓛 T stays c).post y in
    let tokens = ‵ (flft κ qs.0) ⊛ ‵ (flft κs.1.0 qs.1.0) ⊛ ‵ ftrue in
    let Cell = fact 𝓤 (p ≡ d.at) in let Filled = fact 𝓤 (IsFilled d.slots i) in
    qed 𝓛 ((tokens ⊛ ‵ (owns (types_at T.signature.params κs) a y.0.4)) ∷ raw ((c κs a).requires gh) ∷ []) ∵
    move ! (1 ∷ []) $ use1 𝓛 (raw (fact 𝓤 (κs.1.0 ⊑ X.lives)) ⊛ raw Cell ⊛ raw Filled) (id⊢ 𝓤 _) $ split3 ! $ drop ! $
    heard ! _ (λ at. heard ! _ (λ filled.
    split ! $ move ! (1 ∷ []) $ fsplit ! $ fsplit ! $ keep ! (1 ∷ 3 ∷ []) $
    -- [the places as they are lent; the tokens]
    unhide ! $ fsplit ! $ drop ! $
    in_a_block ! d.at (λ r. lent_row_at (R E) r d.slots κ) (id⊢ 𝓤 (never 𝓤)) (λ b o e. fsplit ! $ flt_l ! (λ short.
    let within = filled_within d.slots i filled in let there = i * s + o in
    let tiny : s < 2 ^ 64 = omega (arith, one_below (length d.slots) s (2 ^ 63) (omega arith) short) in
    let far : i * s < 2 ^ 64 = omega (arith, times_below i (length d.slots) s (2 ^ 63) (omega arith) short) in
    use1 𝓛 (‵ (lent_slot_at (R E) b there (get_or d.slots i None) κ))
    (slot_seen E 𝓛 b κ d.slots i o there within refl) $
    rewrite ! 0 (λ (c : Place E). ‵ (lent_slot_at (R E) b there c κ)) filled.1 refl $ hide ! $
    regoal ! (λ (r : Ptr). prop (WpFn 𝓤 H 𝓣.C 𝓣.Λ fn (passed r) Post)) (at ∙ e) refl $
    enter ! 𝓣.C 𝓣.Λ fn (passed (block_ptr b o)) Post $
    alloc_all ! (λ l. pass_all ! refl
    ((tt, tt), (base_good E (block_ptr b o), ((tt, record { fits = are.1.1.0.1 }), tt))) $
    first ! $ blocks ! $
    sets ! (bin ! (get ! refl) (size_lit ! (record { fits = tiny })) (record { fits = far })) refl
    (tt, record { fits = far }) $
    sets ! (bin ! (get_in ! (fld ! refl (stop !)) (sub ! 0 refl (whole !))) (get ! refl) tt) refl (tt, tt) $
    sets_last ! (addr ! (through ! refl (stop !))) refl (tt, tt) $
    exec ! 𝓣.C 𝓣.Λ (env fn.locals l) (after 1 fn.body) (at_ret _ Post) $
    sets ! (of_opd ! (get ! refl)) refl (tt, tt) $ returns ! (look_at ! 0 refl) $ free_all ! refl $
    -- [the value, shared; the tokens]
    feq_i ! (List Val) (vptr b there ∷ []) (vptr b there ∷ []) refl $ fjoin ! $
    use0 𝓛 (raw (fact 𝓤 (get_or d.slots i None ≡ Some filled.0))) (fact_i 𝓤 _ (emp 𝓤) filled.1) $
    nothing ! $ nothing ! $ fjoin ! $ nothing ! $ fjoin ! $ nothing ! $ fjoin ! $ move ! (3 ∷ 0 ∷ 2 ∷ 1 ∷ []) $
    by ! (leaves 𝓛 T stays c y (vptr b there) (record { ref_ptr = (b, there); now = filled.0 }) (tt, (tt, (tt, tt)))
    (tt, (tt, (tt, tt))))))))))
