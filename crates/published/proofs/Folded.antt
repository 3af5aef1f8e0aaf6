-- The published truth on rows as devices list them is the verdict on their folded tables. Assumes nothing.
use Prim.Native.Nat.{ℕ, zero, suc, ◌+◌, ◌≤◌}
use mathlib.Core.Path.{◌≡◌, refl, sym, ap, ap₂, subst, ◌∙◌}
use mathlib.Core.Logic.{◌↔◌, ⊎_elim}
use mathlib.Core.Bool.{Bool, true, false, not, ◌&&◌, ◌||◌, true≢false}
use mathlib.Core.List.Memᴰ
use mathlib.Core.List.Pairwise
use mathlib.Core.List.{List, [], ◌∷◌, ◌++◌, map, append-nil, Nodup, not-mem-nil}
use native.Mathlib.Omega.{arith}
use lib.ListN.{length}
use borrow.Author.Tests.{eqb-true}
use Rattle.base.specs.Lists.{◌∈◌, all, any, concat_map}
use Rattle.base.proofs.Bools.{either}
use Rattle.base.proofs.Lists.{all_at, all_false, any_at, any_hit, concat_map_in, concat_map_out}
use Rattle.tables.specs.Words.{whole, row_words, row_at, row_count, rows_from, rows}
use Rattle.tables.specs.Answers.{is_done}
use Rattle.tables.specs.Rules.{one, accepted_rule}
use Rattle.tables.specs.Tables.{root, is_parent, accepted_table}
use Rattle.tables.specs.declared.Row.{Row}
use Rattle.tables.specs.Answers.{Done}
use Rattle.tables.proofs.Accepted as accepts
use Rattle.tables.proofs.Accepted.{parent_device, parent_at}
use Rattle.tables.proofs.Ordered.{Placed, placed, behind, length_ok}
use Rattle.tables.proofs.OrderedRows.{Rising, at_low}
use Rattle.tables.proofs.Proper.{rows_proper}
use Rattle.tables.proofs.RowLists.{row_out, from_out}
use Rattle.tables.proofs.RowWords.{rows_words}
use Rattle.tables.proofs.Whole.{table_whole}
use Rattle.folding.specs.Folding.{folded, fold_answer, folded_table}
use Rattle.folding.proofs.Images.{Image, same_parent, OfEither, image_beside}
use Rattle.folding.proofs.Foldings.{Tidy, Goes, folded_foldings, end}
use Rattle.folding.proofs.ParentSearch.{same_device}
use Rattle.folding.proofs.Ends.{foldable_tidy}
use Rattle.folding.proofs.Answers.{done_foldable, table_is}
use Rattle.folding.proofs.Claims.{folds}
use Rattle.logic.specs.Formulas.{formula}
use Rattle.logic.specs.Verdict.{verdict_answer}
use Rattle.logic.specs.Demand.{Device, dump}
use Rattle.logic.specs.Folded.{Listing, folded_rows, after_folding, Listed}
use Rattle.logic.proofs.Joinings.{rows_concat}
use Rattle.published.specs.Published.{Tree, Pair, Path, CL, NOT, OR, AND, IMPLIES, SOME, EACH, EQUAL, LESS, ATMOST, SOMEPAIR, EACHPAIR, pairs, v, ◌⊨◌}
use Rattle.published.specs.Stated.{no_standing, stated, tree, truth_of, published, ListedAnswered, FoldedAnswered}
use Rattle.published.specs.Chains.{Chain}
use Rattle.published.proofs.Rows.{Hung, none_hung, more_hung, fit_hung, fit}
use Rattle.published.proofs.Table.{pairs_of}
use Rattle.published.proofs.Chains.{hung_paths}
use Rattle.published.proofs.Descent.{child}
use Rattle.published.proofs.Agree.{answered}

-- ---- truth rests on the sets of values alone
any_same : {A : Type 0} (f g : A → Bool) (xs ys : List A) → ((x : A) → f x ≡ g x) → ((x : A) → x ∈ xs → x ∈ ys) → ((x : A) → x ∈ ys → x ∈ xs)
    → any f xs ≡ any g ys
any_same f g xs ys e to from = either (any f xs)
    (λ h. let w = any_at f xs h in h ∙ sym (any_hit g (to w.0 w.1) (sym (e w.0) ∙ w.2)))
    (λ h. either (any g ys)
    (λ k. let w = any_at g ys k in absurd (true≢false (sym (any_hit f (from w.0 w.1) (e w.0 ∙ w.2)) ∙ h)))
    (λ k. h ∙ sym k))

all_same : {A : Type 0} (f g : A → Bool) (xs ys : List A) → ((x : A) → f x ≡ g x) → ((x : A) → x ∈ xs → x ∈ ys) → ((x : A) → x ∈ ys → x ∈ xs)
    → all f xs ≡ all g ys
all_same f g xs ys e to from = either (all f xs)
    (λ h. either (all g ys)
    (λ k. h ∙ sym k)
    (λ k. let w = all_false g ys k in absurd (true≢false (sym (all_at f h (from w.0 w.1)) ∙ e w.0 ∙ w.2))))
    (λ h. either (all g ys)
    (λ k. let w = all_false f xs h in absurd (true≢false (sym (all_at g k (to w.0 w.1)) ∙ sym (e w.0) ∙ w.2)))
    (λ k. h ∙ sym k))

module _ (S T : Tree) (same : (path : Path) (p k : ℕ) → (k ∈ v S path p) ↔ (k ∈ v T path p)) where
  to_pair : (path : Path) (x : Pair) → x ∈ pairs S path → x ∈ pairs T path
  to_pair path x m = (pairs_of T path x.name x.value).1 ((same path x.name x.value).0 ((pairs_of S path x.name x.value).0 m))

  from_pair : (path : Path) (x : Pair) → x ∈ pairs T path → x ∈ pairs S path
  from_pair path x m = (pairs_of S path x.name x.value).1 ((same path x.name x.value).1 ((pairs_of T path x.name x.value).0 m))

  pub truth_same : (φ : CL) → (S ⊨ φ) ≡ (T ⊨ φ)
  unfolding ◌⊨◌
  truth_same (NOT φ) = ap not (truth_same φ)
  truth_same (OR φ ψ) = ap₂ ◌||◌ (truth_same φ) (truth_same ψ)
  truth_same (AND φ ψ) = ap₂ ◌&&◌ (truth_same φ) (truth_same ψ)
  truth_same (IMPLIES φ ψ) = ap₂ (λ (a b : Bool). not a || b) (truth_same φ) (truth_same ψ)
  truth_same (SOME path p φ) = any_same _ _ (v S path p) (v T path p) (λ k. truth_same (φ k)) (λ k. (same path p k).0) (λ k. (same path p k).1)
  truth_same (EACH path p φ) = all_same _ _ (v S path p) (v T path p) (λ k. truth_same (φ k)) (λ k. (same path p k).0) (λ k. (same path p k).1)
  truth_same (EQUAL a b) = refl
  truth_same (LESS a b) = refl
  truth_same (ATMOST a b) = refl
  truth_same (SOMEPAIR path φ) = any_same _ _ (pairs S path) (pairs T path) (λ x. truth_same (φ x)) (to_pair path) (from_pair path)
  truth_same (EACHPAIR path φ) = all_same _ _ (pairs S path) (pairs T path) (λ x. truth_same (φ x)) (to_pair path) (from_pair path)

-- ---- rows gone into others have the same paths
module _ {R : Row → Row → Type 0} {T U : List Row} (α : Image R T U)
    (parents : (r : Row) → r ∈ T → root r ≡ false → (p : Row) × (p ∈ T) × (is_parent r p ≡ true))
    (rise : Rising U) (low : (u : Row) → u ∈ U → 1 ≤ u.at) where
  -- forth
  under : (s r u : Row) → s ∈ T → is_parent s r ≡ true → R r u → (w : Row) × R s w × (is_parent w u ≡ true)
  under s r u m c x =
      let w = α.goes s m in
      let z = α.above w.1 r (α.from x) c in
      (w.0, w.1, subst (λ (y : Row). is_parent w.0 y ≡ true) (α.one z.1 x) z.2)

  forth : (path : Path) (p k : ℕ) (r u : Row) → R r u → Chain T (child r) path p k → Chain U (child u) path p k
  unfolding Chain
  forth [] p k r u x c =
      let w = under c.0 r u c.1 c.2 x in
      (w.0, α.to w.1, w.2, (α.like w.1).name ∙ c.3, (α.like w.1).value ∙ c.4)
  forth (y ∷ path) p k r u x c =
      let w = under c.0 r u c.1 c.2 x in
      (w.0, α.to w.1, w.2, (α.like w.1).name ∙ c.3, (α.like w.1).value ∙ c.4, forth path p k c.0 w.0 w.1 c.5)

  forth_roots : (path : Path) (p k : ℕ) → Chain T root path p k → Chain U root path p k
  unfolding Chain
  forth_roots [] p k c =
      let w = α.goes c.0 c.1 in
      (w.0, α.to w.1, (α.like w.1).roots ∙ c.2, (α.like w.1).name ∙ c.3, (α.like w.1).value ∙ c.4)
  forth_roots (y ∷ path) p k c =
      let w = α.goes c.0 c.1 in
      (w.0, α.to w.1, (α.like w.1).roots ∙ c.2, (α.like w.1).name ∙ c.3, (α.like w.1).value ∙ c.4, forth path p k c.0 w.0 w.1 c.5)

  -- back
  over : (s w u : Row) → R s w → u ∈ U → is_parent w u ≡ true → (r : Row) × R r u × (is_parent s r ≡ true)
  over s w u x n c =
      let e : root w ≡ false = either (root w) (λ z. absurd (omega (arith, low u n, parent_at w u c, eqb-true w.up 0 z))) (λ z. z) in
      let p = parents s (α.from x) (sym (α.like x).roots ∙ e) in
      let z = α.above x p.0 p.1 p.2 in
      (p.0, subst (R p.0) (same_parent rise w z.0 u (α.to z.1) n z.2 c) z.1, p.2)

  back : (path : Path) (p k : ℕ) (u : Row) → u ∈ U → Chain U (child u) path p k → (r : Row) × R r u × Chain T (child r) path p k
  unfolding Chain
  back [] p k u n c =
      let s = α.stays c.0 c.1 in
      let r = over s.0 c.0 u s.1 n c.2 in
      (r.0, r.1, (s.0, α.from s.1, r.2, sym (α.like s.1).name ∙ c.3, sym (α.like s.1).value ∙ c.4))
  back (y ∷ path) p k u n c =
      let s = back path p k c.0 c.1 c.5 in
      let r = over s.0 c.0 u s.1 n c.2 in
      (r.0, r.1, (s.0, α.from s.1, r.2, sym (α.like s.1).name ∙ c.3, sym (α.like s.1).value ∙ c.4, s.2))

  back_roots : (path : Path) (p k : ℕ) → Chain U root path p k → Chain T root path p k
  unfolding Chain
  back_roots [] p k c =
      let s = α.stays c.0 c.1 in
      (s.0, α.from s.1, sym (α.like s.1).roots ∙ c.2, sym (α.like s.1).name ∙ c.3, sym (α.like s.1).value ∙ c.4)
  back_roots (y ∷ path) p k c =
      let s = back path p k c.0 c.1 c.5 in
      (s.0, α.from s.1, sym (α.like s.1).roots ∙ c.2, sym (α.like s.1).name ∙ c.3, sym (α.like s.1).value ∙ c.4, s.2)

  pub image_truth : Hung T → Hung U → (φ : CL) → (tree T ⊨ φ) ≡ (tree U ⊨ φ)
  image_truth f g φ = truth_same (tree T) (tree U) (λ path p k.
      let s = hung_paths T f path p k in
      let t = hung_paths U g path p k in
      (λ m. t.1 (forth_roots path p k (s.0 m)), λ m. s.1 (back_roots path p k (t.0 m)))) φ

-- ---- the rows of several devices
hung_beside : {A B : List Row} → Hung A → Hung B → ((a b : Row) → a ∈ A → b ∈ B → a.device ≡ b.device → ⊥) → Hung (A ++ B)
hung_beside none_hung g apart = g
hung_beside {B = B} (more_hung {x = x} {xs = xs} h f) g apart =
    more_hung first (hung_beside f g (λ a b m. apart a b (Memᴰ.tail m)))
  where
    first : (y : Row) → y ∈ (x ∷ xs ++ B) → is_parent x y ≡ false
    first y m = ⊎_elim
        (λ k. h y k)
        (λ k. either (is_parent x y) (λ e. absurd (apart x y (Memᴰ.head refl) k (sym (parent_device x y e)))) (λ e. e))
        (Memᴰ.append_cases (x ∷ xs) m)

-- of one ordered table
module _ (t : List ℕ) (ok : Placed t) where
  hung_from : (i n : ℕ) → i + n ≤ row_count t → Hung (rows_from t i n)
  unfolding rows_from
  hung_from i zero h = none_hung
  hung_from i (suc n) h = more_hung under (hung_from (suc i) n (omega arith))
    where
      under : (y : Row) → y ∈ rows_from t i (suc n) → is_parent (row_at t i) y ≡ false
      under y m =
          let w = from_out t i (suc n) m in
          either (is_parent (row_at t i) y)
          (λ e. absurd (omega (
            arith,
            w.1,
            behind t ok w.0 i (omega (arith, w.2)) (omega arith)
                (subst (λ (z : Row). is_parent (row_at t i) z ≡ true) w.3 e),
          )))
          (λ e. e)

  ordered_hung : Hung (rows t)
  ordered_hung = hung_from 0 (row_count t) (omega arith)

-- ---- what each row of a list of devices goes into
abbrev listed_rows : Listing → List Row
listed_rows l = rows l.listed

abbrev left_rows : Listing → List Row
left_rows l = folded (rows l.listed)

unfoldable GoneAll : List Listing → Row → Row → Type 0
GoneAll [] = λ r u. ⊥
GoneAll (l ∷ ls) = OfEither (Goes (folded_foldings (rows l.listed))) (GoneAll ls)

abbrev NoneTwice : List Listing → Type 0
NoneTwice ls = Nodup (map (λ (l : Listing). l.number) ls)

record AllListed (ls : List Listing) : Type 0 where
  none_twice : NoneTwice ls
  listed : (l : Listing) → l ∈ ls → Listed l

rest_listed : (l : Listing) (ls : List Listing) → AllListed (l ∷ ls) → AllListed ls
rest_listed l ls ok = record { none_twice = tail ok.none_twice; listed = λ k m. ok.listed k (Memᴰ.tail m) }
  where
    tail : NoneTwice (l ∷ ls) → NoneTwice ls
    tail (Pairwise.cons h w) = w

-- the rows of the first device are none of the others'
others_apart : (l : Listing) (ls : List Listing) → AllListed (l ∷ ls)
    → (a b : Row) → a ∈ listed_rows l → b ∈ concat_map listed_rows ls → a.device ≡ b.device → ⊥
others_apart l ls ok a b m n e =
    let w = concat_map_out listed_rows ls n in
    apart ok.none_twice w.0 w.1
    (sym ((ok.listed l (Memᴰ.head refl)).own_rows a m) ∙ e ∙ (ok.listed w.0 (Memᴰ.tail w.1)).own_rows b w.2)
  where
    apart : NoneTwice (l ∷ ls) → (k : Listing) → k ∈ ls → ¬ (l.number ≡ k.number)
    apart (Pairwise.cons h w) k m q = h k.number ∣ Memᴰ.map (λ (z : Listing). z.number) m ∣₁ q

tidy_of : (l : Listing) → Listed l → Tidy (listed_rows l)
tidy_of l ok = foldable_tidy l.listed (done_foldable l.listed (length l.buffer) ok.accepted)

all_image : (ls : List Listing) → AllListed ls → Image (GoneAll ls) (concat_map listed_rows ls) (concat_map left_rows ls)
unfolding GoneAll
all_image [] ok = record {
  goes = λ r m. absurd (Memᴰ.not-nil m);
  one = λ a b. absurd a;
  from = λ a. absurd a;
  to = λ a. absurd a;
  like = λ a. absurd a;
  above = λ a p m e. absurd a;
  stays = λ u m. absurd (Memᴰ.not-nil m);
}
all_image (l ∷ ls) ok = image_beside (end (tidy_of l (ok.listed l (Memᴰ.head refl)))).image (all_image ls (rest_listed l ls ok)) (others_apart l ls ok)

all_hung : (ls : List Listing) → AllListed ls → Hung (concat_map listed_rows ls)
all_hung [] ok = none_hung
all_hung (l ∷ ls) ok =
    let f = done_foldable l.listed (length l.buffer) (ok.listed l (Memᴰ.head refl)).accepted in
    hung_beside (ordered_hung l.listed (placed l.listed f.ordered)) (all_hung ls (rest_listed l ls ok)) (others_apart l ls ok)

all_parents : (ls : List Listing) → AllListed ls → (r : Row) → r ∈ concat_map listed_rows ls → root r ≡ false
    → (p : Row) × (p ∈ concat_map listed_rows ls) × (is_parent r p ≡ true)
all_parents ls ok r m e =
    let w = concat_map_out listed_rows ls m in
    let p = (tidy_of w.0 (ok.listed w.0 w.1)).ordered.parented.parents r w.2 e in
    (p.0, concat_map_in listed_rows w.1 p.1, p.2)

-- ---- the claims
module _ (ls : List Listing) (ok : AllListed ls) (accepted : accepted_table (dump (map after_folding ls)) ≡ true) where
  abbrev pool : List ℕ
  pool = dump (map after_folding ls)

  abbrev together : List ℕ
  together = concat_map (λ (l : Listing). l.listed) ls

  all_rows : rows together ≡ concat_map listed_rows ls
  all_rows = rows_concat (λ (l : Listing). l.listed) ls (λ l m.
      table_whole l.listed (length_ok l.listed (done_foldable l.listed (length l.buffer) (ok.listed l m).accepted).ordered))

  folded_are : (ks : List Listing) → ((l : Listing) → l ∈ ks → Listed l) → concat_map (λ d. rows d.table) (map after_folding ks) ≡ concat_map left_rows ks
  folded_are [] h = refl
  folded_are (l ∷ ks) h = ap₂ ◌++◌ (rows_left l (h l (Memᴰ.head refl))) (folded_are ks (λ k m. h k (Memᴰ.tail m)))
    where
      rows_left : (l : Listing) → Listed l → rows (folded_rows l) ≡ left_rows l
      rows_left l i = ap rows (table_is l.listed l.buffer i.accepted) ∙ rows_words (left_rows l)

  pool_rows : rows pool ≡ concat_map left_rows ls
  pool_rows = rows_concat (λ d. d.table) (map after_folding ls) (λ d m. whole_table d m) ∙ folded_are ls ok.listed
    where
      whole_table : (d : Device) → d ∈ map after_folding ls → whole row_words d.table ≡ true
      whole_table d m =
          let w = Memᴰ.of_map after_folding ls m in
          let l = w.0 in
          subst (λ (e : Device). whole row_words e.table ≡ true) w.2
          (table_whole (folded_rows l) (accepts.length_ok (folded_rows l) (folds l.listed l.buffer (ok.listed l w.1).accepted).accepted))

  same_truth : (rule : List ℕ) → published rule together ≡ published rule pool
  unfolding truth_of
  same_truth rule =
      let φ = stated (formula rule) 0 no_standing in
      let order = (rows_proper pool accepted).order.parented in
      ap (λ (T : List Row). tree T ⊨ φ) all_rows
      ∙ image_truth (all_image ls ok) (all_parents ls ok) (subst Rising pool_rows order.rise)
      (λ u m. at_low u (order.ranged u (subst (λ (T : List Row). u ∈ T) (sym pool_rows) m)))
      (all_hung ls ok) (subst Hung pool_rows (fit_hung (fit pool accepted))) φ
      ∙ ap (λ (T : List Row). tree T ⊨ φ) (sym pool_rows)

pub listed_answered : ListedAnswered
listed_answered rule ls r twice listed accepted =
    answered rule (dump (map after_folding ls)) r accepted
    ∙ ap (λ (b : Bool). Done (one b)) (sym (same_truth ls (record { none_twice = twice; listed = listed }) accepted rule))

-- one device alone
module _ (table out : List ℕ) (ok : is_done (fold_answer table (length out)) ≡ true) where
  alone : Listing
  alone = record { number = (row_at table 0).device; listed = table; buffer = out; cut = []; room = 0 }

  alone_listed : Listed alone
  unfolding alone
  alone_listed = record {
    own_rows = λ r m.
        let w = row_out table m in
        ap (λ (z : Row). z.device) w.2 ∙ same_device table (done_foldable table (length out) ok) w.0 0 w.1 (omega (arith, w.1));
    accepted = ok;
  }

  pub folded_truth : (rule : List ℕ) → accepted_rule rule ≡ true → verdict_answer rule (folded_table table out) ≡ Done (one (published rule table))
  unfolding alone
  folded_truth rule r =
      ap (verdict_answer rule) (sym (append-nil (folded_table table out)))
      ∙ listed_answered rule (alone ∷ []) r (Pairwise.cons (λ x m. absurd (not-mem-nil m)) Pairwise.nil)
      (λ k m. subst Listed (sym (Memᴰ.eq_of_singleton m)) alone_listed)
      (subst (λ (t : List ℕ). accepted_table t ≡ true) (sym (append-nil (folded_table table out))) (folds table out ok).accepted)
      ∙ ap (λ (t : List ℕ). Done (one (published rule t))) (append-nil table)

pub folded_answered : FoldedAnswered
folded_answered rule table out r ok = folded_truth table out ok rule r
