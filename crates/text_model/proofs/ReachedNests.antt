-- What holds of each nest that some tokens lead to.
use Rattle.std.proofs.Common.{◌≡◌, ◌<◌, ◌≤◌, pos, Bool, true, false, List, [], ◌∷◌, ◌⊎◌, length, refl}
use Rattle.text_model.specs.Grammar.{Rules, is_sized}
use Rattle.text_model.specs.Nest.{Frame, in_tuple, in_list, in_tail, in_map, in_value, in_bits, Begun, Place, want, opened, after, value, colon}
use Rattle.text_model.specs.Nest.{segment, sized, stopped, Nest, is_bits, at_segment, with_bits, grown}
use Rattle.text_model.specs.Reader.{is_want}

pub is_wanted : (place : Place) → is_want place ≡ true → place ≡ want
is_wanted want e = refl
is_wanted other e = cc

-- a term just behind its opening mark may be kept so
abbrev pub is_first : Frame → Bool
is_first (in_tuple ts) = true
is_first (in_list ts) = true
is_first (in_map pairs) = true
is_first (in_bits bs) = true
is_first other = false

abbrev pub at_first : List Begun → Bool
at_first [] = false
at_first (b ∷ bs) = is_first b.frame

-- none of them is a bit string
abbrev pub NoBits : List Begun → Type 0
NoBits [] = Unit {0}
NoBits (b ∷ bs) = (is_bits b.frame ≡ false) × NoBits bs

-- none but the innermost one
abbrev pub NoBitsOutside : List Begun → Type 0
NoBitsOutside [] = Unit {0}
NoBitsOutside (b ∷ bs) = NoBits bs

-- a part may stand in them
abbrev pub HasRoom : Rules → List Begun → Type 0
HasRoom rules bs = (at_segment bs ≡ false) × (length bs < rules.levels)

abbrev pub IsPlaced : Rules → List Begun → Place → Type 0
IsPlaced rules bs want = (at_segment bs ≡ true) ⊎ HasRoom rules bs
IsPlaced rules bs opened = at_first bs ≡ true
IsPlaced rules bs (after start t) = HasRoom rules bs
IsPlaced rules bs (value start v) = at_segment bs ≡ true
IsPlaced rules bs (colon start v) = (at_segment bs ≡ true) × (rules.ranged ≡ true → is_sized v (pos 7) ≡ true)
IsPlaced rules bs segment = at_segment bs ≡ true
IsPlaced rules bs (sized last) = at_segment bs ≡ true
IsPlaced rules bs (stopped t) = bs ≡ []

pub record IsReached (rules : Rules) (n : Nest) : Type 0 where
  pub outside : NoBitsOutside n.begun
  pub shallow : length n.begun ≤ rules.levels
  pub placed : IsPlaced rules n.begun n.place

pub no_bits_outside : (bs : List Begun) → NoBits bs → NoBitsOutside bs
no_bits_outside [] none = tt
no_bits_outside (b ∷ bs) none = none.1

pub no_bits : (bs : List Begun) → at_segment bs ≡ false → NoBitsOutside bs → NoBits bs
no_bits [] e outside = tt
no_bits (b ∷ bs) e outside = (e, outside)

pub no_bits_apart : (bs : List Begun) → NoBits bs → at_segment bs ≡ false
no_bits_apart [] none = refl
no_bits_apart (b ∷ bs) none = none.0

-- ---- more bits of the innermost term

pub at_segment-grown : (bs : List Begun) (more : List Bool) → at_segment (grown bs more) ≡ at_segment bs
at_segment-grown [] more = refl
at_segment-grown (b ∷ bs) more = of_frame b.frame
  where
    of_frame : (frame : Frame) → is_bits (with_bits frame more) ≡ is_bits frame
    of_frame (in_tuple ts) = refl
    of_frame (in_list ts) = refl
    of_frame (in_tail ts) = refl
    of_frame (in_map pairs) = refl
    of_frame (in_value pairs k) = refl
    of_frame (in_bits bits) = refl

pub length-grown : (bs : List Begun) (more : List Bool) → length (grown bs more) ≡ length bs
length-grown [] more = refl
length-grown (b ∷ bs) more = refl

pub outside-grown : (bs : List Begun) (more : List Bool) → NoBitsOutside bs → NoBitsOutside (grown bs more)
outside-grown [] more o = tt
outside-grown (b ∷ bs) more o = o
