-- A value is moved into an empty place.
use Rattle.std.specs.Prelude.{◌≡◌, ◌+◌, ◌*◌, ◌<◌, List, [], ◌∷◌, ◌++◌, length, get_or, Some, None}
use Rattle.std.proofs.Common.{refl, ◌∙◌}
use base.Fraction.{full_share}
use base.Logic.{SProp, emp, id⊢}
use base.Fml.{ftrue, fat, froom, flft}
use mir.Syntax.{named, w64}
use mir.MapTy.{inst_fn}
use mir.Val.{Val, vptr, vint, vunit}
use prog.Wp.{WpFn}
use contract.Monad.{fact, fact_i}
use contract.Running.{tables}
use contract.BorrowLft.{◌⊑◌}
use types.Kit.{‵, raw, prop, ◌⊛◌, at_ret, regoal, ◌$◌, ◌∵◌, !, qed, by, move, keep, drop, use0, use1, use2, split}
use types.Kit.{split3, join, rewrite, fsplit, fsplit3, fjoin, fjoin3, feq_i}
use types.Run.{stop, fld, of_opd, bin, size_lit, unit_lit, init, assigns_last, first, blocks, exec, returns, enter}
use types.ByLocal.{alloc_all, pass_all, free_all, look_at, get, get_in, take_at, give_at, through, sets, env}
use types.Part.{whole, sub}
use denote.Exit.{yes, no}
use denote.Builtin.{usize}
use denote.Param.{layout}
use denote.RattleType.{owns}
use denote.RawPtr.{Ptr}
use denote.Ref.{mut_Tells}
use denote.Signature.{plain, types_at}
use denote.Steps.{nothing, heard}
use denote.Triple.Walked.{Stays, stay_dropped, stay_ref, walk_of, Goes-dropped, Goes-ref}
use borrow.Table.OneValue.{part_in}
use Rattle.std.proofs.raw_atomic.Walks.{proved_at, leaves}
use Rattle.core.proofs.mem.Param.{El, R, args, elτ, one, lawful}
use Rattle.std_alloc.proofs.VecSteps.Shapes.{after}
use Rattle.line_arena.specs.Ownership.{slot_at}
use Rattle.line_arena.proofs.Row.{CellsRow, BaseRow, Place, width, base_val, base_tells, base_good}
use Rattle.line_arena.proofs.OpenedPlaces.{put, opens_place, closes_place}
use Rattle.line_arena.specs.contracts.cells.Cells.write.{ended, clauses}
use Rattle.line_arena.specs.contracts.cells.Cells.write.Key.{name as key}
use Rattle.line_arena.proofs.cells.Cells.write.Statement.{statement}
use Rattle.line_arena.proofs.cells.Cells.write.Code as code

pub write_spec : {M : Type 1} → statement M
write_spec 𝓤 𝓛 𝓜 𝓡 wired X L =
    let E : El = record { row = X; laws = L } in let H = 𝓛.H in let 𝓣 = tables 𝓤 H 𝓜 𝓡 𝓡.env in
    let fn = inst_fn (args E) code.function in let T = ended X in let c = clauses X 𝓛 𝓜.mem 𝓡.returns in
    let owner = plain (λ _. CellsRow E) in let base = plain (λ _. BaseRow E) in let word = plain (λ _. usize) in
    let value = plain (λ _. R E) in
    let stays : Stays T.signature.params T.kept =
    (stay_ref (0 ∷ []) tt owner, (stay_dropped base no, (stay_dropped word yes, (stay_dropped value no, tt)))) in
    proved_at 𝓛 T stays c 𝓜 𝓡 (
      Goes-ref 𝓛 2 0 tt owner,
      (
        Goes-dropped 𝓛 2 base no (λ κs x f. refl),
        (
          Goes-dropped 𝓛 2 word yes (λ κs x f. refl),
          (Goes-dropped 𝓛 2 value no (λ κs x f. refl), tt),
        ),
      ),
    )
    (key (args E)) fn (code.unfolded 𝓤 H 𝓜 𝓡 wired (X, tt)) (λ y are.
    let κs = y.0.0 in let qs = y.0.1 in let a = y.0.3 in let us = y.0.4 in
    let κ = κs.0 in let q = qs.0 in let rb = a.0.ref_ptr.0 in let ro = a.0.ref_ptr.1 in let γ = a.0.ghost_name in
    let d = a.0.now in
    let p = a.1.0.ptr in let i = a.1.1.0 in let x = a.1.1.1.0 in
    let got = one E us.1.1.1.0 ((lawful E 𝓛).typed x us.1.1.1.0 are.1.1.1.0) in let v = got.0 in let good = got.2 in
    let passed : List Val = vptr rb ro ∷ base_val p ∷ vint w64 i ∷ v ∷ [] in
    let Post : Val → SProp 𝓤 = (walk_of 𝓛 T stays c).post y in let others = ‵ (flft κs.1.0 qs.1.0) ⊛ ‵ ftrue in
    let Empty = (i < length d.slots) × (get_or d.slots i None ≡ None) in
    qed 𝓛 (((‵ (flft κ q) ⊛ others) ⊛ ‵ (owns (types_at T.signature.params κs) a us)) ∷ raw
    ((c κs a).requires y.1) ∷ []) ∵
    move ! (1 ∷ []) $ use1 𝓛 (raw (fact 𝓤 (κs.1.0 ⊑ X.lives)) ⊛ raw (fact 𝓤 (p ≡ d.at)) ⊛ raw (fact 𝓤 Empty))
    (id⊢ 𝓤 _) $
    split3 ! $ drop ! $ heard ! _ (λ at. heard ! _ (λ empty. let within = empty.0 in
    let e₀ = mut_Tells (named 0) κ (CellsRow E) a.0 us.0 are.0 in let e₁ = base_tells E a.1.0 us.1.0 are.1.0 in
    let e₂ = are.1.1.0.0 in
    split ! $ move ! (1 ∷ []) $ fsplit ! $ fsplit3 ! $ drop ! $ move ! (2 ∷ []) $ fsplit ! $ drop !
    $ fsplit ! $ drop ! $
    fsplit ! $
    rewrite ! 0 (λ (ws : List Val). ‵ (X.own_val x ws)) got.1 refl $ move ! (4 ∷ []) $ split ! $
    keep ! (4 ∷ 5 ∷ 0 ∷ 2 ∷ 1 ∷ []) $
    regoal ! (λ (ws : List Val). prop (WpFn 𝓤 H 𝓣.C 𝓣.Λ fn ws Post)) (λ j. e₀ j
    ++ (e₁ j ++ (e₂ j ++ (got.1 j ++ [])))) refl $
    -- [the row, in two parts; its token; the value; the other tokens]
    enter ! 𝓣.C 𝓣.Λ fn passed Post $
    alloc_all ! (λ l. pass_all ! refl ((tt, tt), (base_good E p, ((tt, record { fits = are.1.1.0.1 }), (good, tt)))) $
    opens_place E 𝓛 κ q γ rb ro d i ! tt within (λ vs b o e reach.
    let there = i * width E + o in
    take_at ! 2 $ rewrite ! 0 (λ (r : Ptr). ‵ (fat full_share (layout (BaseRow E)) (l 2) 0 (base_val r))) (at ∙ e)
    refl $
    give_at ! 2 $
    first ! $ blocks ! $
    sets ! (bin ! (get ! refl) (size_lit ! (record { fits = reach.one })) (record { fits = reach.far })) refl
    (tt, record { fits = reach.far }) $
    sets ! (bin ! (get_in ! (fld ! refl (stop !)) (sub ! 0 refl (whole !))) (get ! refl) tt) refl (tt, tt) $
    rewrite ! 0 (λ (s : Place E). ‵ (slot_at (R E) b there s)) empty.1 refl $
    use1 𝓛 (‵ (froom (elτ E) b there)) (𝓛.laws.raw-room (elτ E) b there) $
    sets ! (of_opd ! (get ! refl)) refl good $
    assigns_last ! (of_opd ! (get ! refl)) (through ! refl (stop !)) (init ! 0 refl good) $
    exec ! 𝓣.C 𝓣.Λ (env fn.locals l) (after 1 fn.body) (at_ret _ Post) $ sets ! (of_opd ! (unit_lit !)) refl (tt, tt)
    $
    move ! (0 ∷ 7 ∷ []) $ use2 𝓛 (‵ (slot_at (R E) b there (Some x))) (part_in 𝓛 (R E) refl full_share x b there v) $
    closes_place E 𝓛 κ q γ rb ro d i ! tt within reach.short vs b o e (Some x) $ returns ! (look_at ! 0 refl) $
    free_all ! refl $
    -- [the row, in two parts; its token; the other tokens]
    move ! (2 ∷ 3 ∷ []) $ join ! $ move ! (1 ∷ 2 ∷ []) $ feq_i ! (List Val) us.0 (vptr rb ro ∷ []) e₀ $ fjoin3 ! $
    nothing ! $ nothing ! $ fjoin ! $ nothing ! $ fjoin ! $ nothing ! $ fjoin ! $ move ! (1 ∷ 0 ∷ []) $ fjoin ! $
    feq_i ! (List Val) (vunit ∷ []) (vunit ∷ []) refl $
    use0 𝓛 (raw (fact 𝓤 (put E d i (Some x) ≡ put E d i (Some x)))) (fact_i 𝓤 _ (emp 𝓤) refl)
    $ move ! (3 ∷ 2 ∷ 1 ∷ 0 ∷ []) $
    by ! (leaves 𝓛 T stays c y vunit tt (put E d i (Some x), (tt, (tt, (tt, tt)))) (tt, (tt, (tt, (tt, tt))))))))))
