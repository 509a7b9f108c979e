-- What each key has in the table that a file and its book hold.
use Rattle.std.proofs.Common.{◌≡◌, ◌⊎◌, inl, inr, ⊎_elim, ℕ, List, [], Option, Some, None, refl, sym, ap, ◌∙◌, subst}
use Rattle.term_model.specs.TermValue.{TermValue}
use Rattle.dets_term.specs.IsTerm.{IsTerm}
use Rattle.table_model.specs.Table.{Table, objects_of}
use Rattle.etf_model.specs.Canonical.{spelled}
use Rattle.file_model.specs.declared.head.Head.{Head}
use Rattle.file_model.specs.declared.block.Packed.{Packed}
use Rattle.write_cache.specs.declared.pending.Pending.{Pending}
use Rattle.write_cache.specs.Waiting.{state_of}
use Rattle.book_model.specs.Book.{Book}
use Rattle.book_model.specs.Planning.{IsBlockFor}
use Rattle.book_model.specs.OfFile.{IsOf}
use Rattle.book_model.specs.Flushing.{HaveNew}
use Rattle.book_model.specs.Stopped.{HaveOldOrNew, IsStopped}
use Rattle.book_model.proofs.Waits.{found_in}
use Rattle.store_model.specs.Stores.{table_with, AreWaiting, AreObjectsOf, Stores, IsBetween}
use Rattle.store_model.proofs.Terms.{block_term}

-- terms that are spelled alike are equal
abbrev pub Tells : Type 0
Tells = (j k : TermValue) → IsTerm j → IsTerm k → spelled j ≡ spelled k → j ≡ k

-- ---- where no key waits

pub none_waits : (b : Book) (filed : Table) (k : TermValue) (objects : List TermValue) → b.cache ≡ [] → objects ≡ objects_of filed k
    → AreObjectsOf b.place.head filed k (state_of b.cache (spelled k)) objects
none_waits b filed k objects none same = subst (λ w. AreObjectsOf b.place.head filed k (state_of w (spelled k)) objects) (sym none) same

pub as_filed : (b : Book) (filed : Table) (k : TermValue) (objects : List TermValue) → b.cache ≡ []
    → AreObjectsOf b.place.head filed k (state_of b.cache (spelled k)) objects → objects ≡ objects_of filed k
as_filed b filed k objects none are = subst (λ w. AreObjectsOf b.place.head filed k (state_of w (spelled k)) objects) none are

-- ---- a key has one list of objects

module _ (file : List ℕ) (b : Book) (of : IsOf file b) (k : TermValue) where
  abbrev h : Head
  h = b.place.head

  -- the block of a key that waits is one for it
  pub waiting_block : (s : Pending) (p : Packed) → state_of b.cache (spelled k) ≡ Some s → s.block ≡ Some p → IsBlockFor h (spelled k) p
  waiting_block s p state block = of.knows.packed (spelled k, s) p (found_in b.cache (spelled k) s state) block

  one_waiting : (s : Pending) (block : Option Packed) (xs ys : List TermValue) → state_of b.cache (spelled k) ≡ Some s → s.block ≡ block
      → AreWaiting h (spelled k) block xs → AreWaiting h (spelled k) block ys → xs ≡ ys
  one_waiting s None xs ys state is x y = x ∙ sym y
  one_waiting s (Some p) xs ys state is x y = let f = waiting_block s p state is in x f ∙ sym (y f)

  pub one_list : (filed : Table) (o : Option Pending) (xs ys : List TermValue) → state_of b.cache (spelled k) ≡ o
      → AreObjectsOf h filed k o xs → AreObjectsOf h filed k o ys → xs ≡ ys
  one_list filed None xs ys state x y = x ∙ sym y
  one_list filed (Some s) xs ys state x y = one_waiting s s.block xs ys state refl x y

-- ---- what is written

module _ (tells : Tells) (file : List ℕ) (b : Book) (of : IsOf file b) (k : TermValue) (is : IsTerm k) where
  -- the key of its block is the key
  own_term : (p : Packed) (f : IsBlockFor b.place.head (spelled k) p) → f.term ≡ k
  own_term p f = tells f.term k (block_term b.place.head (spelled k) p f) is f.spelled_is

  new_waiting : (old new : Table) → HaveNew b old new → (s : Pending) (block : Option Packed) → state_of b.cache (spelled k) ≡ Some s
      → s.block ≡ block → AreWaiting b.place.head (spelled k) block (objects_of new k)
  new_waiting old new have s None state none = have.goes (spelled k, s) k (found_in b.cache (spelled k) s state) none refl
  new_waiting old new have s (Some p) state some = λ f.
      ap (objects_of new) (sym (own_term p f)) ∙ have.comes (spelled k, s) p (found_in b.cache (spelled k) s state) some f

  pub new_objects : (old new : Table) → HaveNew b old new → (o : Option Pending) → state_of b.cache (spelled k) ≡ o
      → AreObjectsOf b.place.head old k o (objects_of new k)
  new_objects old new have None state = have.stays k state
  new_objects old new have (Some s) state = new_waiting old new have s s.block state refl

  -- ---- and at each moment before

  then_waiting : (old now : Table) → HaveOldOrNew b old now → (objects : List TermValue) (s : Pending) (block : Option Packed)
      → state_of b.cache (spelled k) ≡ Some s → s.block ≡ block → AreWaiting b.place.head (spelled k) block objects
      → (objects_of now k ≡ objects_of old k) ⊎ (objects_of now k ≡ objects)
  then_waiting old now have objects s None state none are = ⊎_elim (λ same. inl same) (λ gone. inr (gone ∙ sym are))
      (have.goes (spelled k, s) k (found_in b.cache (spelled k) s state) none refl)
  then_waiting old now have objects s (Some p) state some are =
      let f = waiting_block file b of k s p state some in
      let own = own_term p f in
      ⊎_elim
      (λ same. inl (subst (λ x. objects_of now x ≡ objects_of old x) own same))
      (λ new. inr (subst (λ x. objects_of now x ≡ f.objects) own new ∙ sym (are f)))
      (have.comes (spelled k, s) p (found_in b.cache (spelled k) s state) some f)

  pub then_objects : (old now : Table) → HaveOldOrNew b old now → (objects : List TermValue) (o : Option Pending) → state_of b.cache (spelled k) ≡ o
      → AreObjectsOf b.place.head old k o objects → (objects_of now k ≡ objects_of old k) ⊎ (objects_of now k ≡ objects)
  then_objects old now have objects None state are = inl (have.stays k state)
  then_objects old now have objects (Some s) state are = then_waiting old now have objects s s.block state refl are

-- ---- the table when all is written, and before

pub flushed_store : (tells : Tells) (old new : List ℕ) (b after : Book) (t : Table) → Stores old b t → IsOf new after → after.cache ≡ []
    → after.place.head.kind ≡ b.place.head.kind → after.place.head.keypos ≡ b.place.head.keypos
    → HaveNew b (table_with b.place.head old) (table_with after.place.head new) → Stores new after t
flushed_store tells old new b after t st of none kind keypos have = record {
  of_file = of;
  kind = st.kind ∙ sym kind;
  keypos = st.keypos ∙ sym keypos;
  keys = λ k is.
      none_waits after (table_with after.place.head new) k (objects_of t k) none
      (one_list old b st.of_file k (table_with b.place.head old) (state_of b.cache (spelled k)) (objects_of t k)
      (objects_of (table_with after.place.head new) k) refl (st.keys k is)
      (new_objects tells old b st.of_file k is (table_with b.place.head old) (table_with after.place.head new) have (state_of b.cache (spelled k)) refl));
}

pub between : (tells : Tells) (file image : List ℕ) (b : Book) (t : Table) → Stores file b t → IsStopped b file image
    → IsBetween file (table_with b.place.head file) t image
between tells file image b t st stop = record {
  head = stop.head;
  read = stop.read;
  kind = stop.kind ∙ sym st.kind;
  keypos = stop.keypos ∙ sym st.keypos;
  fit = stop.fit;
  sound = stop.sound;
  keys = λ k is.
      then_objects tells file b st.of_file k is (table_with b.place.head file) (table_with stop.head image) stop.table (objects_of t k)
      (state_of b.cache (spelled k)) refl (st.keys k is);
}
