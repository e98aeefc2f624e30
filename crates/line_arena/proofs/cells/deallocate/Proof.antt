-- n empty places are room for n values, and with the claim the allocator takes it back.
use Rattle.std.specs.Prelude.{◌≡◌, ℕ, ◌*◌, ◌<◌, ◌^◌, List, [], ◌∷◌, replicate, None}
use Rattle.std.proofs.Common.{T, refl, sym, ap, ◌∙◌, subst, arith}
use lib.ListN.{length-replicate}
use base.Logic.{SProp, never, id⊢}
use base.Fml.{ftrue, froom, flft, Incl-trans}
use mir.Syntax.{named, ty_array, ty_unit, w64}
use mir.MapTy.{inst_fn}
use mir.Val.{Val, vptr, vint, vunit, has_ty, WT}
use prog.Memory.{align, capped}
use prog.Capped.{capped_fits}
use prog.Wp.{WpFn}
use contract.Monad.{fact}
use contract.Running.{tables}
use contract.BorrowLft.{◌⊑◌}
use types.Kit.{‵, raw, prop, given, learn, group, rewrite, regoal, flt_l, ◌⊛◌, later, await, at_ret, ◌$◌, ◌∵◌, !, qed}
use types.Kit.{by, move, keep, drop, use1, split, split3, join, fsplit, fjoin, feq_i}
use types.Run.{stop, fld, unit_lit, of_opd, blocks, bin, size_word, align_word, and_then, no_more, first, exec}
use types.Run.{returns, enter}
use types.ByLocal.{alloc_all, pass_all, free_all, look_at, get, get_in, is, sets, lands_last, env}
use types.Part.{whole, sub}
use denote.Exit.{yes, no}
use denote.Builtin.{RefOf, usize}
use denote.Plain.{uint_vals, uint_Tells}
use denote.RattleType.{RattleType, owns}
use denote.RawPtr.{Ptr, block_ptr, in_a_block}
use denote.Ref.{shr_vals, shr_Tells}
use denote.Signature.{plain, types_at}
use denote.Steps.{nothing, heard}
use denote.Triple.Call.{calls_at_last}
use denote.Triple.Walked.{Stays, stay_dropped, walk_of, Goes-dropped}
use Rattle.std.proofs.raw_atomic.Walks.{proved, leaves}
use Rattle.core.proofs.mem.Param.{El, R, elτ}
use Rattle.core.proofs.alloc.Calls.{Al, token, Gives, at_gives, Gives-goes, Gives-Gives}
use Rattle.core.proofs.atomic.Steps.{fm}
use Rattle.core.proofs.slots.Leases.{uncapped, block_ty, block_size, block_align, args, P}
use Rattle.core.proofs.alloc.Calls.{Goes-blank}
use Rattle.std_alloc.proofs.VecSteps.Shapes.{after}
use Rattle.line_arena.specs.Ownership.{row_at, block_claim}
use Rattle.line_arena.proofs.Row.{CellsRow, BaseRow, width, base_val, base_vals, base_good, base_tells, no_bytes}
use Rattle.line_arena.proofs.Row.{Place, room_joined, cells_tell, claim_tells}
use Rattle.line_arena.specs.contracts.cells.Claim as claim
use Rattle.line_arena.specs.contracts.cells.deallocate.{ended, clauses}
use Rattle.line_arena.specs.contracts.cells.deallocate.Key.{name as key}
use Rattle.line_arena.proofs.cells.deallocate.Statement.{statement}
use Rattle.line_arena.proofs.cells.deallocate.Code as code

pub deallocate_spec : {M : Type 1} → statement M
deallocate_spec 𝓤 𝓛 𝓜 𝓡 wired X W LX LW g d drops met met_drop =
    let E : El = record { row = X; laws = LX } in let Z : Al =
    record { row = W; laws = LW; g = g; d = d; drops = drops } in
    let H = 𝓛.H in let 𝓣 = tables 𝓤 H 𝓜 𝓡 𝓡.env in let fn = inst_fn (args E Z) code.function in
    let Sig = ended X W g d drops in let c = clauses X W g d drops 𝓛 𝓜.mem 𝓡.returns in
    let Claim : RattleType = claim.the_row (R E) (P E Z) g in
    let handle = RefOf (0 ∷ []) tt (plain (λ _. P E Z)) (λ _. tt) in let start = plain (λ _. BaseRow E) in
    let word = plain (λ _. usize) in
    let owner = plain (λ _. CellsRow E) in let claimed = plain (λ _. Claim) in
    let stays : Stays Sig.signature.params Sig.kept = (
      stay_dropped handle yes,
      (stay_dropped start no, (stay_dropped word yes, (stay_dropped owner no, (stay_dropped claimed no, tt)))),
    ) in
    proved 𝓛 Sig stays c 𝓜 𝓡 (
      Goes-dropped 𝓛 3 handle yes (λ κs x f. refl),
      (
        Goes-dropped 𝓛 3 start no (λ κs x f. refl),
        (
          Goes-dropped 𝓛 3 word yes (λ κs x f. refl),
          (Goes-blank 𝓛 3 owner no (λ κs x f. tt), (Goes-blank 𝓛 3 claimed no (λ κs x f. tt), tt)),
        ),
      ),
    )
    (key (args E Z)) fn (code.unfolded 𝓤 H 𝓜 𝓡 wired (X, (W, tt)) d drops)
    (λ κs. (shr_vals, (base_vals E, (uint_vals w64, ((λ x. no_bytes ∷ []), ((λ x. no_bytes ∷ []), tt))))))
    (λ κs. (
      shr_Tells (named 0) κs.0 (P E Z),
      (base_tells E, (uint_Tells w64, (cells_tell E, (claim_tells E Z, tt)))),
    )) (λ κs qs bounds a gh are.
    let κ = κs.0 in let q = qs.0 in let rb = a.0.ref_ptr.0 in let ro = a.0.ref_ptr.1 in let by_handle = a.0.now in
    let p = a.1.0.ptr in let n = a.1.1.0 in let cells = a.1.1.1.0 in let deed = a.1.1.1.1.0 in let s = width E in
    let passed : Ptr → List Val = λ r. vptr rb ro ∷ base_val r ∷ vint w64 n ∷ no_bytes ∷ no_bytes ∷ [] in
    let y : (walk_of 𝓛 Sig stays c).Ghost = (
      (
        κs,
        qs,
        bounds,
        a,
        (vptr rb ro ∷ [], (base_vals E a.1.0, (vint w64 n ∷ [], (no_bytes ∷ [], (no_bytes ∷ [], tt))))),
      ),
      gh,
    ) in
    let Post : Val → SProp 𝓤 = (walk_of 𝓛 Sig stays c).post y in
    let others = ‵ (flft κs.1.0 qs.1.0) ⊛ ‵ (flft κs.1.1.0 qs.1.1.0) ⊛ ‵ ftrue in
    let Whole = (cells.at ≡ p) × (cells.slots ≡ replicate n None) in
    let Right = (deed.at ≡ p) × (deed.len ≡ n) × (deed.alloc ≡ by_handle) in
    qed 𝓛 (((‵ (flft κ q) ⊛ others) ⊛ ‵ (owns (types_at Sig.signature.params κs) a y.0.4)) ∷ raw
    ((c κs a).requires gh) ∷ []) ∵
    move ! (1 ∷ []) $
    use1 𝓛 (raw (fact 𝓤 (κs.1.0 ⊑ X.lives)) ⊛ raw (fact 𝓤 (κs.1.1.0 ⊑ W.lives)) ⊛ raw (fact 𝓤 Whole) ⊛ raw
    (fact 𝓤 Right)) (id⊢ 𝓤 _) $
    split ! $ drop ! $ split3 ! $ heard ! _ (λ within. heard ! _ (λ whole_is. heard ! _ (λ right.
    split ! $ move ! (1 ∷ []) $ fsplit ! $ fsplit ! $ drop ! $ move ! (1 ∷ []) $ fsplit ! $ drop !
    $ fsplit ! $ drop ! $
    fsplit ! $
    fsplit ! $ drop ! $ move ! (1 ∷ []) $ fsplit ! $ fsplit ! $ drop ! $ move ! (4 ∷ []) $ split ! $
    keep ! (4 ∷ 2 ∷ 5 ∷ 0 ∷ 1 ∷ []) $
    -- [the row; the claim; a `&` to the allocator; its token; the other tokens]
    rewrite ! 0 (λ (x : Ptr × List (Place E)). ‵ (row_at (R E) x.0 x.1)) (λ j. (whole_is.0 j, whole_is.1 j)) refl $
    in_a_block ! p (λ r. row_at (R E) r (replicate n None)) (id⊢ 𝓤 (never 𝓤)) (λ b o e. fsplit ! $ flt_l ! (λ fit.
    let short : n * s < 2 ^ 63 = subst (λ (k : ℕ). k * s < 2 ^ 63) (length-replicate n None) fit in
    let bytes : n * s < 2 ^ 64 = omega arith in
    let block = block_ty E n in let al = capped (align (elτ E)) in let Env = λ (l : ℕ → ℕ). env fn.locals l in
    let gives = Gives Z 𝓛 𝓜.mem 𝓡.returns in
    let call : gives.Ghost = at_gives Z 𝓛 𝓜.mem 𝓡.returns κ q (rb, ro) by_handle b o (n * s) al block in
    rewrite ! 1 (λ (x : W.Denot × Ptr × ℕ). ‵ (block_claim (R E) (token Z x.0) x.1 x.2))
    (λ j. (right.2 j, (right.0 ∙ e) j, right.1 j)) refl $
    use1 𝓛 (‵ (froom (ty_array (elτ E) n) b o)) (room_joined E 𝓛 b n o) $
    use1 𝓛 (‵ (froom block b o)) (𝓛.laws.room-raw (ty_array (elτ E) n) b o) $
    regoal ! (λ (r : Ptr). prop (WpFn 𝓤 H 𝓣.C 𝓣.Λ fn (passed r) Post)) e refl $
    enter ! 𝓣.C 𝓣.Λ fn (passed (block_ptr b o)) Post $
    alloc_all ! (λ l. pass_all ! refl (
      (tt, tt),
      (
        base_good E (block_ptr b o),
        (
          (tt, record { fits = are.1.1.0.1 }),
          ((tt, (tt, tt)), ((tt, (tt, tt)), tt)),
        ),
      ),
    ) $
    first ! $ blocks ! $ sets ! (of_opd ! (get_in ! (fld ! refl (stop !)) (sub ! 0 refl (whole !)))) refl (tt, tt) $
    sets ! (is ! (bin ! (get ! refl) (size_word !)
    (record { fits = subst (λ (k : ℕ). k < 2 ^ 64) (sym (uncapped n s bytes)) bytes }))
    (ap (vint w64) (uncapped n s bytes)))
    refl (tt, record { fits = bytes }) $
    group ! 4 $
    use1 𝓛 (raw (gives.pre call)) (Gives-goes Z 𝓛 𝓜.mem 𝓡.returns κ q (rb, ro) by_handle (Incl-trans bounds.0 within)
    b o (n * s) al block
    (block_size E n bytes) (block_align E n) bytes (capped_fits (align (elτ E)))) $
    calls_at_last ! (fm 𝓛 𝓜 𝓡) gives (met.deallocate drops) call
    (and_then ! (get ! refl)
    (and_then ! (get ! refl) (and_then ! (get ! refl) (and_then ! (align_word !) (no_more !))))) (λ v.
    use1 𝓛 (later (given (v ≡ vunit) (‵ (flft κ q)))) (Gives-Gives Z 𝓛 𝓜.mem 𝓡.returns κ q (rb, ro) by_handle b o
    (n * s) al block v) $
    await ! tt $
    learn ! (λ is_unit. lands_last ! refl (subst (λ (u : Val). T (has_ty ty_unit u) × WT u) (sym is_unit) (tt, tt)) $
    exec ! 𝓣.C 𝓣.Λ (Env l) (after 1 fn.body) (at_ret _ Post) $ sets ! (of_opd ! (unit_lit !)) refl (tt, tt) $
    returns ! (look_at ! 0 refl) $ free_all ! refl $
    join ! $ nothing ! $ feq_i ! (List Val) (vunit ∷ []) (vunit ∷ []) refl $
    nothing ! $ nothing ! $ fjoin ! $ nothing ! $ fjoin ! $ nothing ! $ fjoin ! $ nothing ! $ fjoin !
    $ nothing ! $ fjoin ! $
    move ! (3 ∷ 0 ∷ 1 ∷ 2 ∷ []) $
    by ! (leaves 𝓛 Sig stays c y vunit tt (tt, (tt, (tt, (tt, (tt, tt))))) (tt, (tt, (tt, (tt, (tt, tt)))))))))))))))
