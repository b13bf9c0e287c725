-- A local that holds a `[T; k]` whole: its first n elements are lent as a `&κ mut [T]` for the lifetime κ of a call, and the array comes
-- back with what
-- the call left in their place. It says nothing of the crate. T is plain: what its values own is had for nothing.
--     Lender           what the holder keeps meanwhile: the lender's part at κ, and the other elements
--     lends_array      the array at (b, 0)  ⊢ ⇛ ∃ γ. own (the `&κ mut [T]` ((b, 0), γ, the first n)) ∗ Lender γ
--     array_back       [†κ] ∗ Lender γ ∗ finally γ zs  ⊢ ⇛ (the array of zs and the others at (b, 0))
-- Assumes `Logic`.
use mathlib.Core.Path.{◌≡◌, refl, sym, ap, subst, ◌∙◌}
use Prim.Native.Nat.{ℕ, ◌+◌, ◌≤◌}
use mathlib.Core.List.{List, [], ◌∷◌, ◌++◌}
use lib.ListN as ListN
use lib.ListN.{length, take, take-append-drop}
use lib.Seq.{length-take-le}
use seplogic.Ra.Ura.{Ura}
use base.Fraction.{full_share}
use mir.Syntax.{Ty, Lifetime, ty_array}
use mir.Val.{Val}
use base.Logic.{ent, sep, ex, guard}
use base.Fml.{Lft, GName, Fml, fsep, fat, fdead, flent}
use types.Logic.{Logic, sem}
use types.Kit.{‵, ◌⊛◌, some, later, ◌$◌, ◌∵◌, !, qed, move, use1, use2, use3, drop, split, pick, rewrite, fsplit, fjoin, fpick, fpack, feq_i, frame, await, updating, check, now as at_once, show, done}
use types.SemTy.{cells, Arr}
use types.Share.{arr_parts}
use denote.RattleType.{RattleType}
use denote.Memory.{cell_at, lone, part_at, part_of, mem, shares}
use denote.Laws.{Is, Makes, shows}
use denote.Array.{Array, array_val, Array-Makes}
use denote.ArrayMemory.{Single, Array-apart, Array-whole}
use denote.Ref.{MutBor}
use denote.Slice.{slice_val, MutSlice, Room, finally}
use denote.Lend.{Held, lends_slice, slice_back}
use denote.Index.{row, whole_out, whole_in}
use denote.Steps.{owned, peeks}
use borrow.Table.Elements.{at, cut_app, join_app}

module _ (R : RattleType) (one : Single R.mir) (k b : ℕ) where
  abbrev pub Whole : RattleType
  Whole = Array R k

  abbrev pub whole_ty : Ty
  whole_ty = ty_array (lone R.mir) k

  abbrev at_list : GName → List R.Denot → MutBor (List R.Denot)
  at_list δ ys = record { ref_ptr = (b, 0); ghost_name = δ; now = ys }

  module _ (κ : Lft) (xs : List R.Denot) (n : ℕ) where
    abbrev front : List R.Denot
    front = take n xs

    abbrev others : List R.Denot
    others = ListN.drop n xs

    abbrev pub Lender : GName → Fml
    Lender γ = fsep (flent κ (Held R (length front) b 0 γ)) (cells (mem R) others b (at 0 (mem R).size (length front)))

    module _ {M : Type 1} {𝓤 : Ura M} (𝓛 : Logic 𝓤) (mk : Makes 𝓛 R (Is R)) (few : n ≤ length xs) where
      open 𝓛 use {H, A}

      pub lends_array : (ℓ : Lifetime) (v : Val) → Is Whole xs (v ∷ []) → Room R n
          → ent 𝓤 (H.at full_share whole_ty b 0 v)
          (H.⇛ (ex 𝓤 (λ (γ : GName). sep 𝓤 (sem 𝓛 ((MutSlice ℓ κ R).own_val (at_list γ front) (slice_val (b, 0) n ∷ [])))
          (sem 𝓛 (Lender γ)))))
      unfolding part_of
      lends_array ℓ v is room =
          let long : length front ≡ n = length-take-le n xs few in
          qed 𝓛 (‵ (fat full_share whole_ty b 0 v) ∷ []) ∵ updating ! $
          use1 𝓛 (‵ (cell_at full_share (whole_ty ∷ []) (v ∷ []) b 0)) (𝓛.laws.at_raw full_share whole_ty b 0 v) $
          owned ! Whole (Is Whole) (Array-Makes 𝓛 R mk k) xs (v ∷ []) is $ move ! (1 ∷ 0 ∷ []) $ fjoin ! $
          fpack ! (List Val) (λ vs. fsep (cell_at full_share Whole.mir vs b 0) (Whole.own_val xs vs)) (v ∷ []) $
          use1 𝓛 (‵ ((arr_parts (shares R) k).part full_share xs b 0)) (Array-apart 𝓛 R full_share one k xs b 0) $ fsplit ! $ drop ! $
          use1 𝓛 (‵ (cells (mem R) xs b 0)) (whole_in 𝓛 R xs b 0) $
          rewrite ! 0 (λ (l : List R.Denot). ‵ (cells (mem R) l b 0)) (sym (take-append-drop n xs)) refl $
          use1 𝓛 (‵ (cells (mem R) front b 0) ⊛ ‵ (cells (mem R) others b (at 0 (mem R).size (length front))))
          (cut_app 𝓛 (mem R) front others b 0) $ split ! $
          use1 𝓛 (later (some (λ (γ : GName). ‵ ((MutSlice ℓ κ R).own_val (at_list γ front) (slice_val (b, 0) (length front) ∷ []))
          ⊛ ‵ (flent κ (Held R (length front) b 0 γ)))))
          (lends_slice 𝓛 R ℓ κ front b 0 (subst (Room R) (sym long) room)) $ await ! tt $ pick ! (λ γ. split ! $
          rewrite ! 0 (λ (j : ℕ). ‵ ((MutSlice ℓ κ R).own_val (at_list γ front) (slice_val (b, 0) j ∷ []))) long refl $
          -- [the slice; the lender's part; the others]
          at_once ! $ show ! (λ (γ' : GName). sep 𝓤 (sem 𝓛 ((MutSlice ℓ κ R).own_val (at_list γ' front) (slice_val (b, 0) n ∷ [])))
          (sem 𝓛 (Lender γ'))) γ $ frame ! $
          fjoin ! $ done !)

      pub array_back : (γ : GName) (zs : List R.Denot) → length xs ≡ k → length zs ≡ length front
          → ent 𝓤 (sep 𝓤 (A.dead κ) (sep 𝓤 (sem 𝓛 (Lender γ)) (sem 𝓛 (finally R γ zs))))
          (H.⇛ (ex 𝓤 (λ (v : Val). guard 𝓤 (Is Whole (zs ++ others) (v ∷ [])) (H.at full_share whole_ty b 0 v))))
      unfolding part_of
      array_back γ zs e len =
          let ys : List R.Denot = zs ++ others in
          let size : length ys ≡ k = ListN.length-append zs others ∙ ap (λ (j : ℕ). j + length others) len
          ∙ sym (ListN.length-append front others) ∙ ap length (take-append-drop n xs) ∙ e in
          qed 𝓛 (‵ (fdead κ) ∷ ‵ (Lender γ) ∷ ‵ (finally R γ zs) ∷ []) ∵ updating ! $ move ! (1 ∷ []) $ fsplit ! $ move ! (2 ∷ 0 ∷ 3 ∷ []) $
          use3 𝓛 (later (‵ ((Arr (mem R) (length front)).own_at zs b 0))) (slice_back 𝓛 R κ γ zs (length front) b 0) $ await ! tt $
          fsplit ! $ drop ! $
          rewrite ! 1 (λ (j : ℕ). ‵ (cells (mem R) others b (at 0 (mem R).size j))) (sym len) refl $
          use2 𝓛 (‵ (cells (mem R) ys b 0)) (join_app 𝓛 (mem R) zs others b 0) $
          use1 𝓛 (‵ (row R full_share ys b 0)) (whole_out 𝓛 R ys b 0) $ feq_i ! ℕ (length ys) k size $ fjoin ! $
          use1 𝓛 (‵ (part_at Whole full_share ys b 0)) (Array-whole 𝓛 R full_share k ys b 0) $
          fpick ! (λ vs. fsplit ! $ move ! (1 ∷ []) $ peeks ! Whole (Is Whole) (shows 𝓛 Whole) ys vs (λ is. drop ! $
          let v : Val = array_val is.0 in
          rewrite ! 0 (λ (us : List Val). ‵ (cell_at full_share Whole.mir us b 0)) is.1.0.0 refl $
          use1 𝓛 (‵ (fat full_share whole_ty b 0 v)) (𝓛.laws.raw_at full_share whole_ty b 0 v) $
          at_once ! $ show ! (λ (u : Val). guard 𝓤 (Is Whole ys (u ∷ [])) (H.at full_share whole_ty b 0 u)) v $
          check ! (subst (Is Whole ys) is.1.0.0 is) $ done !))
