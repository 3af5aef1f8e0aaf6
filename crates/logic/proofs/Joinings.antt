-- A run of joinings: no table on the way has a fault, so only a short buffer refuses, and what is left is the cuts of the devices joined. Assumes nothing.
use Prim.Native.Nat.{ℕ, ◌-◌, ◌*◌, ◌<◌}
use native.Mathlib.Omega.{arith}
use mathlib.Core.Path.{◌≡◌, refl, sym, ap, subst, ◌∙◌}
use mathlib.Core.Logic.{inl, inr}
use mathlib.Core.Bool.{Bool, true, false, cond}
use mathlib.Core.List.Memᴰ
use mathlib.Core.List.Pairwise
use mathlib.Core.List.Sublistᴰ
use mathlib.Core.List.{List, [], ◌∷◌, ◌++◌, append-nil, append_assoc, Sublistᴰ}
use lib.ListN.{length, length-append}
use lib.Dec.{eqb, leb}
use borrow.Author.Tests.{eqb-false, lt-ltb}
use Rattle.base.specs.Lists.{◌∈◌, put, concat_map}
use Rattle.base.proofs.Bools.{either, or_first, or_second}
use Rattle.base.proofs.Lists.{concat_map_in, concat_map_out, concat_map_append, concat_map_sub, map_sub, sub_in, sub_behind, sub_before}
use Rattle.tables.specs.Answers.{is_done, unless}
use Rattle.tables.specs.Words.{whole, row_words, row_at, row_count, rows_from, rows}
use Rattle.tables.specs.Tables.{is_parent, has_twin, row_fault, table_length, check_table, accepted_table}
use Rattle.tables.specs.Joining.{follows, join_tables}
use Rattle.tables.specs.declared.Row.{Row}
use Rattle.tables.specs.Answers.{Answer}
use Rattle.tables.specs.Answers.{Done}
use Rattle.tables.proofs.Accepted.{length_ok, no_12, parent_device}
use Rattle.tables.proofs.Answers.{and_then_passed, unless_passed, unless_any_passed}
use Rattle.tables.proofs.Proper.{Above, Rising, rising_across, rows_proper}
use Rattle.tables.proofs.RowLists.{row_in, rows_append}
use Rattle.logic.specs.Formulas.{Formula}
use Rattle.logic.specs.Parts.{words_of, spare_for_each}
use Rattle.logic.specs.Demand.{Device, under_parent, Cut, IsCut, Sends, dump, join, after, answers, parts, taken, OnlyShort}
use Rattle.logic.proofs.Words.{whole_is, is_whole, words_rows}
use Rattle.logic.proofs.Members.{member, in_member, not_member}
use Rattle.logic.proofs.Selections.{sub_accepted}
use Rattle.logic.proofs.Devices.{NoneTwice, apart, twice_tail, Own, in_part, own_of, sent_of}
use Rattle.tables.specs.declared.Fault.TheVariants.{TableLength, Sibling, Join, ShortOutput}

-- ---- words of several devices, one after another
module _ {A : Type 0} (f : A → List ℕ) where
  pub whole_concat : (ds : List A) → ((d : A) → d ∈ ds → whole row_words (f d) ≡ true) → whole row_words (concat_map f ds) ≡ true
  whole_concat [] h = refl
  whole_concat (d ∷ ds) h =
      let e : length (f d) ≡ row_words * row_count (f d) = whole_is (f d) (h d (Memᴰ.head refl)) in
      let g : length (concat_map f ds) ≡ row_words * row_count (concat_map f ds) = whole_is (concat_map f ds) (whole_concat ds (λ x m. h x (Memᴰ.tail m))) in
      is_whole (f d ++ concat_map f ds) (row_count (f d ++ concat_map f ds)) (omega (arith, length-append (f d) (concat_map f ds)))

  pub rows_concat : (ds : List A) → ((d : A) → d ∈ ds → whole row_words (f d) ≡ true) → rows (concat_map f ds) ≡ concat_map (λ d. rows (f d)) ds
  unfolding rows_from
  rows_concat [] h = refl
  rows_concat (d ∷ ds) h = rows_append (f d) (concat_map f ds) (whole_is (f d) (h d (Memᴰ.head refl))) ∙ ap (◌++◌ (rows (f d))) (rows_concat ds (λ x m. h x (Memᴰ.tail m)))

-- the cuts of the devices
abbrev pub sent : List Device → List ℕ
sent es = concat_map (λ d. d.cut) es

append_cut : (es : List Device) (d : Device) → sent (es ++ (d ∷ [])) ≡ sent es ++ d.cut
append_cut es d = concat_map_append (λ e. e.cut) es (d ∷ []) ∙ ap (◌++◌ (sent es)) (append-nil d.cut)

module _ (Fs : List Formula) (ds : List Device) (twice : NoneTwice ds) (sends : (d : Device) → d ∈ ds → Sends Fs d) (ok : accepted_table (dump ds) ≡ true) where
  own_rows : Own own_of ds
  own_rows d m = (sends d m).own_rows

  own_sum : rows (dump ds) ≡ concat_map own_of ds
  own_sum = rows_concat (λ d. d.table) ds (λ d m. (sends d m).whole_rows)

  -- ---- some of the devices, with any cut of each
  module _ (f : Device → List ℕ) (cuts : (d : Device) → d ∈ ds → IsCut Fs d.table (f d)) where
    pub some_accepted : (es : List Device) → Sublistᴰ es ds → accepted_table (concat_map f es) ≡ true
    some_accepted es s =
        subst (λ (t : List ℕ). accepted_table t ≡ true) (ap words_of (sym (rows_concat f es whole_f)) ∙ words_rows (concat_map f es) (whole_concat f es whole_f))
        (sub_accepted (dump ds) ok (concat_map (λ d. rows (f d)) es)
        (subst (Sublistᴰ (concat_map (λ d. rows (f d)) es)) (sym own_sum) (concat_map_sub (λ d. rows (f d)) own_of (λ d m. (cut d m).keeps) s)) closed)
      where
        whole_f : (d : Device) → d ∈ es → whole row_words (f d) ≡ true
        whole_f d m = (cuts d (sub_in s m)).whole_rows

        cut : (d : Device) → d ∈ es → Cut (spare_for_each Fs (own_of d)) (own_of d) (rows (f d))
        cut d m = (cuts d (sub_in s m)).is_cut

        closed : (r p : Row) → r ∈ concat_map (λ d. rows (f d)) es → p ∈ rows (dump ds) → is_parent r p ≡ true → p ∈ concat_map (λ d. rows (f d)) es
        closed r p i j c = go (concat_map_out (λ d. rows (f d)) es i)
          where
            go : (d : Device) × (d ∈ es) × (r ∈ rows (f d)) → p ∈ concat_map (λ d. rows (f d)) es
            go w = concat_map_in (λ d. rows (f d)) w.1 (either (member (rows (f w.0)) p) (λ e. in_member (rows (f w.0)) e) (λ e. absurd ((cut w.0 w.1).sent r p w.2 own (not_member (rows (f w.0)) e) (under_parent own c))))
              where
                number : r.device ≡ w.0.number
                number = own_rows w.0 (sub_in s w.1) r (sub_in (cut w.0 w.1).keeps w.2)

                own : p ∈ own_of w.0
                own = in_part own_of ds twice own_rows w.0 (sub_in s w.1) p (subst (λ (l : List Row). p ∈ l) own_sum j) (parent_device r p c ∙ number)

  -- ---- joining one more
  pub sent_accepted : (es : List Device) → Sublistᴰ es ds → accepted_table (sent es) ≡ true
  sent_accepted = some_accepted (λ d. d.cut) (λ d m. (sends d m).sends)

  module _ (es : List Device) (d : Device) (s : Sublistᴰ (es ++ (d ∷ [])) ds) where
    first_part : Sublistᴰ es ds
    first_part = subst (λ (l : List Device). Sublistᴰ l ds) (append-nil es) (Sublistᴰ.trans (sub_behind es (Sublistᴰ.nil-sublist (d ∷ []))) s)

    both_accepted : accepted_table (sent es ++ d.cut) ≡ true
    both_accepted = subst (λ (l : List ℕ). accepted_table l ≡ true) (append_cut es d) (sent_accepted (es ++ (d ∷ [])) s)

    cut_accepted : accepted_table d.cut ≡ true
    cut_accepted = subst (λ (l : List ℕ). accepted_table l ≡ true) (append-nil d.cut) (sent_accepted (d ∷ []) (Sublistᴰ.trans (sub_before es (Sublistᴰ.refl (d ∷ []))) s))

    d_in : d ∈ ds
    d_in = sub_in s (Memᴰ.append_right es (Memᴰ.head refl))

    other : (xs : List Device) → NoneTwice (xs ++ (d ∷ [])) → (e : Device) → e ∈ xs → ¬ (e.number ≡ d.number)
    other [] t e x3 k = elim x3 [ ]
    other (x ∷ xs) t e (Memᴰ.head q) k = apart x (xs ++ (d ∷ [])) t d (Memᴰ.append_right xs (Memᴰ.head refl)) (ap (λ (z : Device). z.number) (sym q) ∙ k)
    other (x ∷ xs) t e (Memᴰ.tail m) k = other xs (twice_tail x (xs ++ (d ∷ [])) t) e m k

    sent_own : Own sent_of ds
    sent_own e m r i = own_rows e m r (sub_in (sends e m).sends.is_cut.keeps i)

    cuts_whole : (e : Device) → e ∈ es → whole row_words e.cut ≡ true
    cuts_whole e m = (sends e (sub_in first_part m)).sends.whole_rows

    across : Rising (rows (sent es) ++ rows d.cut)
    across = subst Rising (rows_append (sent es) d.cut (whole_is (sent es) (whole_concat (λ e. e.cut) es cuts_whole))) (rows_proper (sent es ++ d.cut) both_accepted).order.parented.rise

    lower : (r x : Row) → r ∈ rows (sent es) → x ∈ sent_of d → r.device < x.device
    lower r x i j = go (rising_across (rows (sent es)) (rows d.cut) across r x i j) (concat_map_out sent_of es (subst (λ (l : List Row). r ∈ l) (rows_concat (λ e. e.cut) es cuts_whole) i))
      where
        go : Above r x → (e : Device) × (e ∈ es) × (r ∈ sent_of e) → r.device < x.device
        go (inl h) w = h
        go (inr h) w = absurd (other es (Pairwise.sublistᴰ (map_sub (λ (e : Device). e.number) s) twice) w.0 w.1 (sym (sent_own w.0 (sub_in first_part w.1) r w.2) ∙ h.0 ∙ sent_own d d_in x j))

    behind : follows (sent es) d.cut ≡ true
    behind = either (eqb (row_count (sent es)) 0)
        (λ e. or_first (eqb (row_count (sent es)) 0) _ e)
        (λ e. or_second (eqb (row_count (sent es)) 0) _ (either (eqb (row_count d.cut) 0)
        (λ f. or_first (eqb (row_count d.cut) 0) _ f)
        (λ f. or_second (eqb (row_count d.cut) 0) _ (lt-ltb _ _ (last (row_count (sent es)) (row_count d.cut) (eqb-false _ _ e) (eqb-false _ _ f) refl refl)))))
      where
        last : (m n : ℕ) → ¬ (m ≡ 0) → ¬ (n ≡ 0) → row_count (sent es) ≡ m → row_count d.cut ≡ n → (row_at (sent es) (row_count (sent es) - 1)).device < (row_at d.cut 0).device
        last m n a b e f =
            lower (row_at (sent es) (row_count (sent es) - 1)) (row_at d.cut 0)
            (row_in (sent es) (row_count (sent es) - 1) (omega arith)) (row_in d.cut 0 (omega arith))

    -- every check but the last passes
    join_is : join (sent es) d ≡ unless (leb (length (sent es ++ d.cut)) d.room) ShortOutput (Done (length (sent es ++ d.cut)))
    unfolding join_tables row_fault
    join_is =
        and_then_passed (check_table (sent es)) _ (sent_accepted es first_part)
        ∙ and_then_passed (check_table d.cut) _ cut_accepted
        ∙ unless_passed (follows (sent es) d.cut) Join _ behind
        ∙ unless_passed (table_length (sent es ++ d.cut)) TableLength _ (length_ok (sent es ++ d.cut) both_accepted)
        ∙ unless_any_passed (has_twin (sent es ++ d.cut)) Sibling (row_count (sent es ++ d.cut)) _ (no_12 (sent es ++ d.cut) both_accepted)

    join_short : OnlyShort (join (sent es) d)
    join_short = subst OnlyShort (sym join_is) (go (leb (length (sent es ++ d.cut)) d.room))
      where
        go : (b : Bool) → OnlyShort (unless b ShortOutput (Done (length (sent es ++ d.cut))))
        go true = inl refl
        go false = inr refl

  -- ---- the run
  pub answers_short : (rest es : List Device) (t : List ℕ) → t ≡ sent es → Sublistᴰ (es ++ rest) ds → (a : Answer) → a ∈ answers t rest → OnlyShort a
  unfolding answers
  answers_short [] es t e s a m = elim m [ ]
  answers_short (d ∷ rest) es t e s a (Memᴰ.head q) =
      subst OnlyShort (sym q) (subst (λ (l : List ℕ). OnlyShort (join l d)) (sym e) (join_short es d (Sublistᴰ.trans (sub_behind es (Sublistᴰ.cons-cons refl (Sublistᴰ.nil-sublist rest))) s)))
  answers_short (d ∷ rest) es t e s a (Memᴰ.tail m) = go (is_done (join t d)) (answers_short rest (es ++ (d ∷ [])) (t ++ d.cut)) (answers_short rest es t) m
    where
      go : (b : Bool) → (t ++ d.cut ≡ sent (es ++ (d ∷ [])) → Sublistᴰ ((es ++ (d ∷ [])) ++ rest) ds → (x : Answer) → x ∈ answers (t ++ d.cut) rest → OnlyShort x) → (t ≡ sent es → Sublistᴰ (es ++ rest) ds → (x : Answer) → x ∈ answers t rest → OnlyShort x)
          → a ∈ answers (cond b (t ++ d.cut) t) rest → OnlyShort a
      go true f g i = f (ap (λ (l : List ℕ). l ++ d.cut) e ∙ sym (append_cut es d)) (subst (λ (l : List Device). Sublistᴰ l ds) (sym (append_assoc es (d ∷ []) rest)) s) a i
      go false f g i = g e (Sublistᴰ.trans (sub_behind es (Sublistᴰ.cons (Sublistᴰ.refl rest))) s) a i

-- what the run leaves, from the cuts of es on
parts_from : (ds es : List Device) (t : List ℕ) → t ≡ sent es → parts t ds ≡ sent (es ++ taken t ds)
unfolding parts taken
parts_from [] es t e = e ∙ ap sent (sym (append-nil es))
parts_from (d ∷ ds) es t e = go (is_done (join t d)) (parts_from ds (es ++ (d ∷ [])) (t ++ d.cut)) (parts_from ds es t)
  where
    go : (b : Bool) → (t ++ d.cut ≡ sent (es ++ (d ∷ [])) → parts (t ++ d.cut) ds ≡ sent ((es ++ (d ∷ [])) ++ taken (t ++ d.cut) ds)) → (t ≡ sent es → parts t ds ≡ sent (es ++ taken t ds))
        → parts (cond b (t ++ d.cut) t) ds ≡ sent (es ++ put b d (taken (cond b (t ++ d.cut) t) ds))
    go true f g = f (ap (λ (l : List ℕ). l ++ d.cut) e ∙ sym (append_cut es d)) ∙ ap sent (append_assoc es (d ∷ []) (taken (t ++ d.cut) ds))
    go false f g = g e

pub parts_are : (ds : List Device) → parts [] ds ≡ sent (taken [] ds)
parts_are ds = parts_from ds [] [] refl

pub taken_sub : (ds : List Device) (t : List ℕ) → Sublistᴰ (taken t ds) ds
unfolding taken
taken_sub [] t = Sublistᴰ.slnil
taken_sub (d ∷ ds) t = go (is_done (join t d)) (taken_sub ds (after t d))
  where
    go : (b : Bool) {es : List Device} → Sublistᴰ es ds → Sublistᴰ (put b d es) (d ∷ ds)
    go true s = Sublistᴰ.cons-cons refl s
    go false s = Sublistᴰ.cons s
