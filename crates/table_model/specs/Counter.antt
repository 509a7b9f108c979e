-- A counter: an integer in an object of a set, after update_counter/3 of the dets reference manual. The range of
-- integers is this project's own.
use Rattle.std.specs.Prelude.{◌≡◌, ℕ, zero, suc, ◌^◌, ℤ, pos, negsuc, ◌+ℤ◌, Bool, false, cond, ◌==◌, nat_lt, find, slice_set, List, [], ◌∷◌, Option}
use Rattle.std.specs.Prelude.{Some, None, Result, Ok, Err}
use Rattle.term_model.specs.TermValue.{TermValue, integer, tuple, nil, chain, elements, key}
use Rattle.term_model.specs.Order.{is_same}
use Rattle.table_model.specs.Table.{Table, has_key, objects_of, insert_object}

-- why a counter is not updated: there is none in that place of an object with the key, or its sum is no integer of a term
pub data CounterFault : Type 0 where
  NoCounter : CounterFault
  OutOfRange : CounterFault

-- the new integer, which is the reply, and the table with it
pub record Counted : Type 0 where
  pub value : ℤ
  pub table : Table

-- from -2^127 to 2^127 - 1
abbrev pub is_in_range : ℤ → Bool
is_in_range (pos n) = nat_lt n (2 ^ 127)
is_in_range (negsuc n) = nat_lt n (2 ^ 127)

-- a place of an object, counted from 1, as a number that is not negative; 0, which is no place, where it is
abbrev pub place_of : ℤ → ℕ
place_of (pos place) = place
place_of (negsuc n) = 0

abbrev pub integer_of : Option TermValue → Option ℤ
integer_of (Some (integer z)) = Some z
integer_of other = None

-- The integer at a place of an object: none where the place is that of the key or outside the object, or another term
-- stands there.
abbrev pub counter_at : ℕ → ℕ → TermValue → Option ℤ
counter_at keypos place object = cond (place == keypos) None (integer_of (key object place))

abbrev pub with_element_at : List TermValue → ℕ → TermValue → List TermValue
with_element_at elements zero element = elements
with_element_at elements (suc place) element = slice_set elements place element

-- an object with another element at a place
abbrev pub with_element : TermValue → ℕ → TermValue → TermValue
with_element (tuple parts) place element = tuple (chain (with_element_at (elements parts) place element) nil)
with_element other place element = other

abbrev pub with_sum : Table → TermValue → ℕ → ℤ → Result Counted CounterFault
with_sum table object place sum =
    cond (is_in_range sum) (Ok (record { value = sum; table = insert_object table (with_element object place (integer sum)) })) (Err OutOfRange)

abbrev pub with_increment : Table → TermValue → ℕ → ℤ → Option ℤ → Result Counted CounterFault
with_increment table object place increment None = Err NoCounter
with_increment table object place increment (Some old) = with_sum table object place (old +ℤ increment)

abbrev pub counted : Table → ℕ → ℤ → Option TermValue → Result Counted CounterFault
counted table place increment None = Err NoCounter
counted table place increment (Some object) = with_increment table object place increment (counter_at table.keypos place object)

-- A set after the counter of a key at this place is incremented: its object is inserted with the sum in that place.
abbrev pub update_counter : Table → TermValue → ℤ → ℤ → Result Counted CounterFault
update_counter table k place increment = counted table (place_of place) increment (find (has_key table.keypos k) table.objects)

-- the place where none is given: behind the key
abbrev pub usual_place : Table → ℤ
usual_place table = pos (suc table.keypos)

-- what an update of a counter leaves of a set
pub record Increments (table : Table) (k : TermValue) (place increment : ℤ) (new : Counted) : Type 0 where
  -- the object of the key, and the integer in that place of it
  pub object : TermValue
  pub there : find (has_key table.keypos k) table.objects ≡ Some object
  pub old : ℤ
  pub counter : counter_at table.keypos (place_of place) object ≡ Some old
  pub sum : new.value ≡ old +ℤ increment
  -- the key has that object alone, with the sum in its place, and the other keys have what they had
  pub objects : objects_of new.table k ≡ with_element object (place_of place) (integer new.value) ∷ []
  pub in_place : key (with_element object (place_of place) (integer new.value)) (place_of place) ≡ Some (integer new.value)
  pub other_keys : (j : TermValue) → is_same k j ≡ false → objects_of new.table j ≡ objects_of table j
