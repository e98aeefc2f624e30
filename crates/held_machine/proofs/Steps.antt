-- The names that the walks of this crate cite.
pub use Rattle.std.proofs.Common.{◌≡◌, List, [], ◌∷◌, ◌++◌, T, refl, sym, ap, subst, ◌∙◌, lit<, w64}
pub use Rattle.std.proofs.raw_atomic.Walks.{proved_at, leaves}
pub use Rattle.std.specs.Prelude.{Option, Some, None, IsSome}
pub use mir.Syntax.{Fn, Args, Dict, a_type, dcons, dnil}
pub use mir.MapTy.{inst_fn}
pub use mir.Raw.{raw as bare}
pub use mir.Val.{Val, vint, vptr, vstruct, vcons, vnil, of_list, has_ty, WT}
pub use base.Logic.{SProp, ent, emp, id⊢, never, fst∗}
pub use base.Fml.{ftrue, fsep, flft}
pub use contract.BorrowLft.{◌⊑◌}
pub use contract.Monad.{fact, fact_i}
pub use contract.Running.{tables}
pub use prog.Wp.{WpFn}
pub use denote.Triple.Table.{framed}
pub use types.Logic.{sem}
pub use types.Kit.{Item, ⋆, at_ret, ‵, raw, ◌⊛◌, some, later, ◌$◌, ◌∵◌, !, qed, by, move, keep, drop, use0, use1}
pub use types.Kit.{join, split, split3, pick, rewrite, fsplit, fjoin, fpick, fpack, feq_l, feq_i, await}
pub use types.Part.{whole, sub, agg}
pub use types.Run.{stop, fld, lit, of_opd, no_more, and_then, returns, enter, first, blocks, exec}
pub use types.ByLocal.{alloc_all, pass_all, free_all, look_at, get, get_in, sets, lands_as, lands_last, env}
pub use denote.Exit.{yes, no}
pub use denote.Param.{bounded}
pub use denote.RattleType.{RattleType, Valss}
pub use denote.RawPtr.{Ptr, RawPtr, block_ptr, null_ptr, ptr_val, in_a_block}
pub use denote.Signature.{plain}
pub use denote.Steps.{heard, nothing, only}
pub use denote.Struct.Owning.{shape, to}
pub use denote.Struct.Struct.{within}
pub use denote.Struct.Tuple.{Tuple}
pub use denote.Triple.Call.{calls_at, calls_at_last}
pub use denote.Triple.Clauses.{Ended}
pub use denote.Triple.Spec.{triple_of}
pub use denote.Triple.Walked.{Stays, stay_dropped, walk_of, Goes-dropped}
pub use Rattle.core.proofs.alloc.Calls.{α, token, handle_tells, Goes-blank}
pub use Rattle.std.specs.Box.Ownership.{box_owns}
pub use Rattle.std_alloc.proofs.BoxSteps.Form.{Bx, D, R, P, B, X, τ, args, box_ty, word, box_typed}
pub use Rattle.std_alloc.proofs.BoxSteps.Steps.{box_out, box_in}
pub use Rattle.std_alloc.proofs.ResultValues.{and_tt}
