-- The allocator's room for n values is n empty places.
use Rattle.std.specs.Prelude.{◌≡◌, ℕ, ◌*◌, ◌<◌, ◌^◌, [], ◌∷◌, length, replicate, None, IfOk, Ok, Err}
use Rattle.std.specs.Vec.Ownership.{FitsInBlock}
use Rattle.std.proofs.Common.{true, false, lit<, refl, sym, ap, subst, arith}
use lib.ListN.{length-replicate}
use base.Logic.{SProp, ent, emp, id⊢}
use base.Fml.{ftrue, froom, flft, Incl-trans}
use mir.Syntax.{Body, named, ty_array, w64}
use mir.MapTy.{inst_fn}
use mir.Val.{Val, vptr, vint, vstruct, vcons, vnil}
use prog.Memory.{align, capped}
use prog.Capped.{capped_fits}
use prog.Wp.{Wp, after_seq, at_return}
use contract.Monad.{fact, fact_i}
use contract.Running.{tables}
use contract.BorrowLft.{◌⊑◌}
use types.Kit.{Post as Continues, any_q, ‵, ⋆, raw, ◌⊛◌, later, await, at_ret, ◌$◌, ◌∵◌, !, qed, by, move, keep, drop}
use types.Kit.{use0, use1, use2, use3, split, split3, join, fsplit, fjoin, flt_i}
use types.Match.{live, vrt, in_variant}
use types.Run.{stop, fld, lit, of_opd, bin, size_word, align_word, switches_on, and_then, no_more, first, exec}
use types.Run.{returns, enter}
use types.ByLocal.{alloc_all, pass_all, free_all, look_at, get, get_in, get_tag, is, sets, sets_last, lands_as, env}
use types.Part.{whole, agg}
use denote.Exit.{yes}
use denote.Builtin.{RefOf, usize}
use denote.Laws.{Is}
use denote.Param.{layout}
use denote.Plain.{uint_vals, uint_Tells}
use denote.RattleType.{RattleType, owns}
use denote.RawPtr.{Ptr, block_ptr}
use denote.Ref.{shr_vals, shr_Tells}
use denote.Signature.{plain, types_at}
use denote.Steps.{nothing, heard, owned}
use denote.Struct.Struct.{Struct, Struct-Makes}
use denote.Struct.Declared as Declared
use denote.Struct.Tuple.{Tuple}
use denote.Triple.Call.{calls_at}
use denote.Triple.Walked.{Stays, stay_dropped, walk_of, Goes-dropped}
use Rattle.std.proofs.raw_atomic.Walks.{proved, leaves}
use Rattle.core.specs.contracts.result.Result as result
use Rattle.core.specs.contracts.alloc.AllocError as refusal
use Rattle.core.proofs.mem.Param.{El, R, elτ}
use Rattle.core.proofs.alloc.Calls.{Al, Answer-typed, Takes, at_takes, Answered, Takes-goes, Takes-gives, answers}
use Rattle.core.proofs.atomic.Steps.{fm}
use Rattle.core.proofs.slots.Leases.{uncapped, block_ty, block_size, block_align, args, P}
use Rattle.std_alloc.proofs.RcSteps.{Good, first_Good}
use Rattle.std_alloc.proofs.ResultValues.{ok_of, err_of}
use Rattle.std_alloc.proofs.VecSteps.Shapes.{after, head, arm_body}
use Rattle.line_arena.specs.Ownership.{slots_at}
use Rattle.line_arena.proofs.Row.{CellsRow, BaseRow, Mark, width, base_val, base_vals, base_good, base_made, no_bytes}
use Rattle.line_arena.proofs.Row.{mark_made, room_cut}
use Rattle.line_arena.proofs.Made.{triple_val, triple_made}
use Rattle.line_arena.specs.contracts.cells.Claim as claim
use Rattle.line_arena.specs.contracts.cells.allocate.{ended, clauses}
use Rattle.line_arena.specs.contracts.cells.allocate.Key.{name as key}
use Rattle.line_arena.proofs.cells.allocate.Statement.{statement}
use Rattle.line_arena.proofs.cells.allocate.Code as code

pub allocate_spec : {M : Type 1} → statement M
allocate_spec 𝓤 𝓛 𝓜 𝓡 wired X W LX LW g d drops met met_drop =
    let E : El = record { row = X; laws = LX } in let Z : Al =
    record { row = W; laws = LW; g = g; d = d; drops = drops } in
    let H = 𝓛.H in let 𝓣 = tables 𝓤 H 𝓜 𝓡 𝓡.env in let fn = inst_fn (args E Z) code.function in
    let T = ended X W g d drops in let c = clauses X W g d drops 𝓛 𝓜.mem 𝓡.returns in
    let handle = RefOf (0 ∷ []) tt (plain (λ _. P E Z)) (λ _. tt) in let word = plain (λ _. usize) in
    let stays : Stays T.signature.params T.kept = (stay_dropped handle yes, (stay_dropped word yes, tt)) in
    proved 𝓛 T stays c 𝓜 𝓡 (
      Goes-dropped 𝓛 3 handle yes (λ κs x f. refl),
      (Goes-dropped 𝓛 3 word yes (λ κs x f. refl), tt),
    )
    (key (args E Z)) fn (code.unfolded 𝓤 H 𝓜 𝓡 wired (X, (W, tt)) d drops)
    (λ κs. (shr_vals, (uint_vals w64, tt))) (λ κs. (shr_Tells (named 0) κs.0 (P E Z), (uint_Tells w64, tt)))
    (λ κs qs bounds a gh are.
    let κ = κs.0 in let q = qs.0 in let rb = a.0.ref_ptr.0 in let ro = a.0.ref_ptr.1 in let by_handle = a.0.now in
    let n = a.1.0 in let s = width E in
    let y : (walk_of 𝓛 T stays c).Ghost = ((κs, qs, bounds, a, (vptr rb ro ∷ [], (vint w64 n ∷ [], tt))), gh) in
    let Post : Val → SProp 𝓤 = (walk_of 𝓛 T stays c).post y in
    let others = ‵ (flft κs.1.0 qs.1.0) ⊛ ‵ (flft κs.1.1.0 qs.1.1.0) ⊛ ‵ ftrue in
    let Claim : RattleType = claim.the_row (R E) (P E Z) g in
    let Three : RattleType = Tuple (BaseRow E ∷ CellsRow E ∷ Claim ∷ []) in
    let Out : RattleType = result.the_row Three refusal.the_row in
    let Cells : Out.Denot → Type 0 = λ r. IfOk r (λ new. (new.1.at ≡ new.0.ptr) × (new.1.slots ≡ replicate n None)) in
    let Claims : Out.Denot → Type 0 =
    λ r. IfOk r (λ new. (new.2.at ≡ new.0.ptr) × (new.2.len ≡ n) × (new.2.alloc ≡ by_handle)) in
    let out : (r : Out.Denot) (v : Val) → Cells r → Claims r →
    ent 𝓤 (⋆ 𝓛 (‵ (Out.own_val r (v ∷ [])) ∷ ‵ (flft κ q) ∷ others ∷ [])) (Post v) = λ r v cells claims.
    qed 𝓛 (‵ (Out.own_val r (v ∷ [])) ∷ ‵ (flft κ q) ∷ others ∷ []) ∵ move ! (1 ∷ 2 ∷ []) $ join ! $
    use0 𝓛 (raw (fact 𝓤 (Claims r))) (fact_i 𝓤 _ (emp 𝓤) claims) $ use0 𝓛 (raw (fact 𝓤 (Cells r)))
    (fact_i 𝓤 _ (emp 𝓤) cells) $
    join ! $
    nothing ! $ nothing ! $ fjoin ! $ nothing ! $ fjoin ! $ move ! (2 ∷ 0 ∷ 3 ∷ 1 ∷ []) $
    by ! (leaves 𝓛 T stays c y v r (tt, (tt, tt)) (tt, (tt, tt))) in
    qed 𝓛 (((‵ (flft κ q) ⊛ others) ⊛ ‵ (owns (types_at T.signature.params κs) a y.0.4)) ∷ raw
    ((c κs a).requires gh) ∷ []) ∵
    move ! (1 ∷ []) $
    use1 𝓛 (raw (fact 𝓤 (κs.1.0 ⊑ X.lives)) ⊛ raw (fact 𝓤 (κs.1.1.0 ⊑ W.lives)) ⊛ raw (fact 𝓤 (FitsInBlock (R E) n)))
    (id⊢ 𝓤 _) $
    split3 ! $ drop ! $ heard ! _ (λ within. heard ! _ (λ asked.
    split ! $ move ! (1 ∷ []) $ fsplit ! $ fsplit ! $ keep ! (1 ∷ 3 ∷ []) $ move ! (1 ∷ []) $ split !
    $ move ! (2 ∷ 0 ∷ []) $
    -- [a `&` to the allocator; its token; the other tokens]
    enter ! 𝓣.C 𝓣.Λ fn (vptr rb ro ∷ vint w64 n ∷ []) Post $
    alloc_all ! (λ l. pass_all ! refl ((tt, tt), ((tt, record { fits = are.1.0.1 }), tt)) $
    let bytes : n * s < 2 ^ 64 = (let short : n * s < 2 ^ 63 = asked.0 in omega arith) in let block = block_ty E n in
    let al = capped (align (elτ E)) in
    let Env = env fn.locals l in let arms : Body = head (after 2 fn.body) in
    let rest : Continues 𝓤 H = any_q (after_seq 𝓤 H (Wp 𝓤 H 𝓣.C 𝓣.Λ Env (after 3 fn.body) (at_return 𝓤 H Env Post))
    (at_return 𝓤 H Env Post)) in
    let takes = Takes Z 𝓛 𝓜.mem 𝓡.returns in
    let call : takes.Ghost = at_takes Z 𝓛 𝓜.mem 𝓡.returns κ q (rb, ro) by_handle (n * s) al block in
    sets ! (is ! (bin ! (get ! refl) (size_word !)
    (record { fits = subst (λ (k : ℕ). k < 2 ^ 64) (sym (uncapped n s bytes)) bytes }))
    (ap (vint w64) (uncapped n s bytes)))
    refl (tt, record { fits = bytes }) $
    use2 𝓛 (raw (takes.pre call)) (Takes-goes Z 𝓛 𝓜.mem 𝓡.returns κ q (rb, ro) by_handle
    (Incl-trans bounds.0 within) (n * s) al block
    (block_size E n bytes) (block_align E n) bytes (capped_fits (align (elτ E)))) $
    calls_at ! (fm 𝓛 𝓜 𝓡) takes (met.allocate drops) call
    (and_then ! (get ! refl) (and_then ! (get ! refl) (and_then ! (align_word !) (no_more !)))) (λ v.
    use1 𝓛 (later (raw (Answered Z 𝓛 𝓜.mem 𝓡.returns by_handle block v) ⊛ ‵ (flft κ q)))
    (Takes-gives Z 𝓛 𝓜.mem 𝓡.returns κ q (rb, ro) by_handle (n * s) al block v) $
    await ! tt $ split ! $ answers Z ! 𝓜.mem 𝓡.returns by_handle block v
    -- a block: [its room; its token; the allocator's token; the other tokens]
    (λ b o e.
    let at : Ptr = block_ptr b o in let base : (BaseRow E).Denot = record { ptr = at } in
    let cells : (CellsRow E).Denot = record { own = record {}; at = at; slots = replicate n None } in
    let deed : Claim.Denot = record { own = record {}; at = at; len = n; alloc = by_handle } in
    let made = triple_val (base_val at) no_bytes no_bytes in
    let typed : Good (layout Three) made = (tt, ((tt, tt), ((tt, tt), ((tt, tt), tt)))) in
    let ok = first_Good (layout Three) made typed in
    lands_as ! e refl (Answer-typed true b o) $ first ! $
    switches_on ! (get_tag ! (vrt ! refl (fld ! refl (stop !))) (whole !)) $
    exec ! 𝓣.C 𝓣.Λ Env (arm_body 0 arms) rest $
    sets ! (of_opd ! (get_in ! (vrt ! refl (fld ! refl (stop !))) (in_variant ! 0 0 refl refl (whole !)))) refl
    (tt, tt) $
    sets ! (of_opd ! (get ! refl)) refl (tt, tt) $
    sets ! (agg ! (and_then ! (get ! refl) (no_more !))) refl (base_good E at) $
    sets ! (agg ! (no_more !)) refl (tt, tt) $ sets ! (agg ! (and_then ! (get ! refl) (no_more !)))
    refl (tt, (tt, tt)) $
    sets ! (agg ! (no_more !)) refl (tt, tt) $ sets ! (agg ! (and_then ! (get ! refl) (no_more !)))
    refl (tt, (tt, tt)) $
    sets ! (agg ! (and_then ! (get ! refl) (and_then ! (get ! refl) (and_then ! (get ! refl) (no_more !))))) refl
    typed $
    sets_last ! (agg ! (and_then ! (lit ! tt) (and_then ! (get ! refl) (no_more !)))) refl ok $
    exec ! 𝓣.C 𝓣.Λ Env (after 3 fn.body) (at_ret Env Post) $ sets ! (of_opd ! (get ! refl)) refl ok $
    returns ! (look_at ! 0 refl) $ free_all ! refl $
    use1 𝓛 (‵ (froom (ty_array (elτ E) n) b o)) (𝓛.laws.raw-room (ty_array (elτ E) n) b o) $
    use1 𝓛 (‵ (slots_at (R E) b o cells.slots)) (room_cut E 𝓛 b n o) $
    flt_i ! (length cells.slots * s) (2 ^ 63) (subst (λ (k : ℕ). k * s < 2 ^ 63) (sym (length-replicate n None))
    asked.0) $
    fjoin ! $
    use0 𝓛 (‵ ((Mark E).own_val (tt, tt) (no_bytes ∷ []))) (mark_made E 𝓛) $ fjoin ! $
    use0 𝓛 (‵ ((BaseRow E).own_val base (base_vals E base))) (base_made E 𝓛 base) $ move ! (2 ∷ []) $
    use0 𝓛 (‵ ((Mark E).own_val (tt, tt) (no_bytes ∷ []))) (mark_made E 𝓛) $ fjoin ! $ move ! (0 ∷ 2 ∷ 1 ∷ []) $
    use3 𝓛 (‵ (Three.own_val (base, cells, deed) (made ∷ []))) (triple_made 𝓛 (BaseRow E) (CellsRow E) Claim base
    cells deed (base_val at) no_bytes no_bytes) $
    use1 𝓛 (‵ (Out.own_val (Ok (base, cells, deed)) (live 0 (vcons made vnil) ∷ [])))
    (ok_of 𝓛 Three refusal.the_row (base, cells, deed) made) $
    by ! (out (Ok (base, cells, deed)) (live 0 (vcons made vnil)) (refl, refl) (refl, refl, refl)))
    -- no block
    (λ e.
    let Refusal : RattleType = Struct (Declared.shape refusal.the_type) in
    let none : Val = live 1 (vcons (vstruct vnil) vnil) in
    lands_as ! e refl (Answer-typed false 0 0) $ first ! $
    switches_on ! (get_tag ! (vrt ! refl (fld ! refl (stop !))) (whole !)) $
    exec ! 𝓣.C 𝓣.Λ Env (arm_body 1 arms) rest $
    sets ! (of_opd ! (get_in ! (vrt ! refl (fld ! refl (stop !))) (in_variant ! 1 0 refl refl (whole !)))) refl
    (tt, tt) $
    sets_last ! (agg ! (and_then ! (lit ! tt) (and_then ! (get ! refl) (no_more !)))) refl
    (tt, (record { fits = lit< tt }, (tt, tt))) $
    exec ! 𝓣.C 𝓣.Λ Env (after 3 fn.body) (at_ret Env Post) $
    sets ! (of_opd ! (get ! refl)) refl (tt, (record { fits = lit< tt }, (tt, tt))) $
    returns ! (look_at ! 0 refl) $ free_all ! refl $
    owned ! Refusal (Is Refusal) (Struct-Makes 𝓛 (Declared.shape refusal.the_type) tt) tt
    (vstruct vnil ∷ []) (tt, (refl, tt)) $
    use1 𝓛 (‵ (Out.own_val (Err (record {})) (none ∷ []))) (err_of 𝓛 Three refusal.the_row (record {}) (vstruct vnil))
    $
    keep ! (0 ∷ 1 ∷ 2 ∷ []) $ by ! (out (Err (record {})) none tt tt)))))))
