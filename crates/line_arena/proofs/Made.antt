-- What a new block is returned as: its base, the owner of its places and the claim to it.
use Rattle.std.specs.Prelude.{List, [], ◌∷◌}
use Rattle.std.proofs.Common.{refl}
use seplogic.Ra.Ura.{Ura}
use base.Logic.{ent, sep}
use mir.Val.{Val, vstruct, vcons, vnil}
use types.Logic.{Logic, sem}
use types.Kit.{‵, ◌$◌, ◌∵◌, !, qed, move, fjoin, fpack, feq_i, done}
use denote.RattleType.{RattleType, Valss}
use denote.Steps.{nothing}
use denote.Struct.Struct.{within}
use denote.Struct.Declared as Declared
use denote.Struct.Tuple.{Tuple, tuple_type}

abbrev pub triple_val : Val → Val → Val → Val
triple_val u v w = vstruct (vcons u (vcons v (vcons w vnil)))

-- three values make a triple
pub triple_made : {M : Type 1} {𝓤 : Ura M} (𝓛 : Logic 𝓤) (A B C : RattleType) (x : A.Denot) (y : B.Denot)
    (z : C.Denot) (u v w : Val)
    → ent 𝓤 (sep 𝓤 (sem 𝓛 (C.own_val z (w ∷ []))) (sep 𝓤 (sem 𝓛 (B.own_val y (v ∷ [])))
    (sem 𝓛 (A.own_val x (u ∷ [])))))
    (sem 𝓛 ((Tuple (A ∷ B ∷ C ∷ [])).own_val (x, y, z) (triple_val u v w ∷ [])))
triple_made 𝓛 A B C x y z u v w =
    let Rows = A ∷ B ∷ C ∷ [] in let whole = triple_val u v w ∷ [] in
    qed 𝓛 (‵ (C.own_val z (w ∷ [])) ∷ ‵ (B.own_val y (v ∷ [])) ∷ ‵ (A.own_val x (u ∷ [])) ∷ []) ∵
    nothing ! $ move ! (1 ∷ 0 ∷ []) $ fjoin ! $ move ! (1 ∷ 0 ∷ []) $ fjoin ! $ move ! (1 ∷ 0 ∷ []) $ fjoin ! $
    feq_i ! (List Val) whole whole refl $ fjoin ! $
    fpack ! (Valss Rows) (within (Declared.shape (tuple_type Rows)) (x, (y, (z, tt))) whole)
    (u ∷ [], (v ∷ [], (w ∷ [], tt))) $
    done !
