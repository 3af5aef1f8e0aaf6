-- The cuts of a list of devices against all their rows, as lists of rows: same verdict, and marks kept. Assumes nothing.
use Prim.Native.Nat.{ℕ}
use mathlib.Core.Path.{◌≡◌, refl, sym, ap, ap₂, subst, ◌∙◌}
use mathlib.Core.Logic.{◌⊎◌, inl, inr}
use mathlib.Core.Bool.{Bool, true, false}
use mathlib.Core.List.Memᴰ
use mathlib.Core.List.Pairwise
use mathlib.Core.List.{List, [], ◌∷◌, ◌++◌, map, append-nil, Nodup}
use borrow.Author.Tests.{eq-eqb, ne_eqb}
use Rattle.base.specs.Lists.{◌∈◌, select, concat_map}
use Rattle.base.proofs.Lists.{select_in, select_append, select_all, select_none, concat_map_in, concat_map_out, any_at, any_hit, sub_in}
use Rattle.tables.specs.Words.{rows}
use Rattle.tables.specs.Tables.{same_row, is_parent}
use Rattle.tables.specs.declared.Row.{Row}
use Rattle.tables.proofs.Accepted.{parent_device, parent_at}
use Rattle.tables.proofs.Proper.{Key, rising_key, Proper, root_alone}
use Rattle.logic.specs.Formulas.{Formula}
use Rattle.logic.specs.Verdict.{none_bound, verdict}
use Rattle.logic.specs.Marks.{reason, marked}
use Rattle.logic.specs.Parts.{no_chains, spare}
use Rattle.logic.specs.Demand.{Device, Under, under_parent, under_above, Cut}
use Rattle.logic.proofs.Sound.{of_device, owned}
use Rattle.logic.proofs.Verdict.{Fine, Spared, Attached, same_verdict}
use Rattle.logic.proofs.Marks.{marks_kept}
use Rattle.logic.proofs.Members.{member, member_in, in_member, not_member, not_in, sub_is_select}

-- ---- the rows of one device among those of all
abbrev pub NoneTwice : List Device → Type 0
NoneTwice ds = Nodup (map (λ (d : Device). d.number) ds)

pub apart : (x : Device) (ds : List Device) → NoneTwice (x ∷ ds) → (e : Device) → e ∈ ds → ¬ (x.number ≡ e.number)
apart x ds (Pairwise.cons h w) e m k = h e.number ∣ Memᴰ.map (λ (d : Device). d.number) m ∣₁ k

pub twice_tail : (x : Device) (ds : List Device) → NoneTwice (x ∷ ds) → NoneTwice ds
twice_tail x ds (Pairwise.cons h w) = w

-- each device gives rows of its own only
abbrev pub Own : (Device → List Row) → List Device → Type 0
Own f ds = (d : Device) → d ∈ ds → (r : Row) → r ∈ f d → r.device ≡ d.number

pub owned_part : (f : Device → List Row) (ds : List Device) → NoneTwice ds → Own f ds → (d : Device) → d ∈ ds → owned d.number (concat_map f ds) ≡ f d
owned_part f [] t h d m = elim m [ ]
owned_part f (x ∷ ds) t h d m = select_append (of_device d.number) (f x) (concat_map f ds) ∙ go m (owned_part f ds (twice_tail x ds t) (λ e i. h e (Memᴰ.tail i)) d)
  where
    rest : (r : Row) → r ∈ concat_map f ds → ¬ (r.device ≡ x.number)
    rest r k e = let w = concat_map_out f ds k in apart x ds t w.0 w.1 (sym e ∙ h w.0 (Memᴰ.tail w.1) r w.2)

    mine : (r : Row) → r ∈ f x → r.device ≡ x.number
    mine = h x (Memᴰ.head refl)

    go : d ∈ (x ∷ ds) → (d ∈ ds → owned d.number (concat_map f ds) ≡ f d) → owned d.number (f x) ++ owned d.number (concat_map f ds) ≡ f d
    go (Memᴰ.head e) ih =
        rw e (rw (select_all (of_device x.number) (f x) (λ r i. eq-eqb r.device x.number (mine r i)), select_none (of_device x.number) (concat_map f ds) (λ r i. ne_eqb r.device x.number (rest r i))) (append-nil (f x)))
    go (Memᴰ.tail k) ih =
        rw (select_none (of_device d.number) (f x) (λ r i. ne_eqb r.device d.number (λ e. apart x ds t d k (sym (mine r i) ∙ e)))) (ih k)

pub in_part : (f : Device → List Row) (ds : List Device) → NoneTwice ds → Own f ds → (d : Device) → d ∈ ds → (r : Row) → r ∈ concat_map f ds → r.device ≡ d.number → r ∈ f d
in_part f ds t h d m r i e = subst (λ (l : List Row). r ∈ l) (owned_part f ds t h d m) (select_in (of_device d.number) i (eq-eqb r.device d.number e))

-- ---- all rows of each device, and what it sends
abbrev pub own_of : Device → List Row
own_of d = rows d.table

abbrev pub sent_of : Device → List Row
sent_of d = rows d.cut

pub record Devices (F : Formula) (ds : List Device) : Type 0 where
  pub none_twice : NoneTwice ds
  pub own_rows : Own own_of ds
  pub proper : (d : Device) → d ∈ ds → Proper (own_of d)
  pub cuts : (d : Device) → d ∈ ds → Cut (spare F (own_of d)) (own_of d) (sent_of d)

module _ (F : Formula) (ds : List Device) (ok : Devices F ds) where
  abbrev all_own : List Row
  all_own = concat_map own_of ds

  abbrev all_sent : List Row
  all_sent = concat_map sent_of ds

  abbrev keep : Row → Bool
  keep = member all_sent

  in_own : (d : Device) → d ∈ ds → (r : Row) → r ∈ all_own → r.device ≡ d.number → r ∈ own_of d
  in_own = in_part own_of ds ok.none_twice ok.own_rows

  in_cut : (d : Device) → d ∈ ds → (r : Row) → r ∈ all_sent → r.device ≡ d.number → r ∈ sent_of d
  in_cut = in_part sent_of ds ok.none_twice (λ d m r i. ok.own_rows d m r (sub_in (ok.cuts d m).keeps i))

  -- (device, at) identifies a row of the dump
  key_is : (p r : Row) → p ∈ all_own → r ∈ all_own → Key p r → p ≡ r
  key_is p r i j k =
      let w = concat_map_out own_of ds i in
      let number = ok.own_rows w.0 w.1 p w.2 in
      rising_key (ok.proper w.0 w.1).order.parented.rise p r w.2 (in_own w.0 w.1 r j (sym k.device ∙ number)) k

  -- a row whose parent stays has no other parent
  parent_stays : (r p : Row) → Attached all_own keep r → p ∈ all_own → is_parent r p ≡ true → keep p ≡ true
  parent_stays r p (inl e) i c = let w = concat_map_out own_of ds i in absurd (root_alone (ok.proper w.0 w.1) r p w.2 c e)
  parent_stays r p (inr w) i c =
      let key : Key p w.0 = record { device = parent_device r p c ∙ sym (parent_device r w.0 w.3); at = parent_at r p c ∙ sym (parent_at r w.0 w.3) } in
      rw (key_is p w.0 i w.1 key) w.2

  spared : Spared all_own keep F 0 (λ D. no_chains)
  unfolding spare
  spared r i k a = go (concat_map_out own_of ds i)
    where
      go : (d : Device) × (d ∈ ds) × (r ∈ own_of d) → spare F (owned r.device all_own) r ≡ true
      go w = subst (λ (l : List Row). spare F l r ≡ true) (sym (ap (λ (δ : ℕ). owned δ all_own) (ok.own_rows d m r w.2) ∙ owned_part own_of ds ok.none_twice ok.own_rows d m)) (settle ((ok.cuts d m).left_out r w.2 (gone r k)))
        where
          d : Device
          d = w.0

          m : d ∈ ds
          m = w.1

          gone : (x : Row) → keep x ≡ false → ¬ (x ∈ sent_of d)
          gone x e j = not_member all_sent e (concat_map_in sent_of m j)

          stays : (x : Row) → x ∈ own_of d → is_parent r x ≡ true → x ∈ sent_of d
          stays x j c = in_cut d m x (in_member all_sent (parent_stays r x a (concat_map_in own_of m j) c)) (ok.own_rows d m x j)

          under_left : (s : Row) → s ∈ own_of d → ¬ (s ∈ sent_of d) → Under (own_of d) r s → ⊥
          under_left s j n (under_parent i' c) = n (stays s i' c)
          under_left s j n (under_above {p = x} i' c u) = (ok.cuts d m).sent x s (stays x i' c) j n u

          settle : (spare F (own_of d) r ≡ true) ⊎ ((s : Row) × (s ∈ own_of d) × (¬ (s ∈ sent_of d)) × Under (own_of d) r s) → spare F (own_of d) r ≡ true
          settle (inl e) = e
          settle (inr u) = absurd (under_left u.0 u.1 u.2 u.3)

  at_start_lem : Fine all_own keep 0 (λ D. no_chains) none_bound
  at_start_lem = record { good = λ v. tt; fresh = λ v l. refl }

  -- the rows sent are the dump's rows that are in a cut
  cut_select : (d : Device) → d ∈ ds → sent_of d ≡ select keep (own_of d)
  cut_select d m =
      sub_is_select keep (ok.cuts d m).keeps (ok.proper d m).order.parented.rise
      (λ r i. member_in all_sent (concat_map_in sent_of m i))
      (λ r i n. not_in all_sent (λ j. n (in_cut d m r j (ok.own_rows d m r i))))

  sent_select : (es : List Device) → ((d : Device) → d ∈ es → sent_of d ≡ select keep (own_of d)) → concat_map sent_of es ≡ select keep (concat_map own_of es)
  sent_select [] h = refl
  sent_select (d ∷ es) h = ap₂ ◌++◌ (h d (Memᴰ.head refl)) (sent_select es (λ e m. h e (Memᴰ.tail m))) ∙ sym (select_append keep (own_of d) (concat_map own_of es))

  sent_is : all_sent ≡ select keep all_own
  sent_is = sent_select ds cut_select

  pub verdict_same : verdict F (concat_map sent_of ds) ≡ verdict F (concat_map own_of ds)
  unfolding verdict
  verdict_same = ap (verdict F) sent_is ∙ sym (same_verdict all_own keep F 0 (λ D. no_chains) none_bound at_start_lem spared)

  pub marked_kept : (r : Row) → marked F (concat_map sent_of ds) r ≡ true → marked F (concat_map own_of ds) r ≡ true
  unfolding marked
  marked_kept r e =
      let w = any_at (same_row r) (reason F all_sent 0 none_bound) e in
      any_hit (same_row r) (marks_kept all_own keep F 0 (λ D. no_chains) none_bound at_start_lem spared w.0 (subst (λ (l : List Row). w.0 ∈ reason F l 0 none_bound) sent_is w.1)) w.2
