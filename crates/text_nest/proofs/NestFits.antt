-- The innermost term of a nest that fits, and the part in front of its closing mark.
use Rattle.std.proofs.Common.{◌≡◌, ◌+◌, ◌*◌, ◌≤◌, ◌^◌, List, ◌∷◌, subst, arith}
use Rattle.text_model.specs.Nest.{Begun, Place, want, opened, after, value, colon, segment, sized, stopped, Nest, last_part}
use Rattle.text_nest.specs.Fits.{FrameFits, LastFits, AreShallow, AreApart, load, IsShallow, place_load, IsFit}

pub innermost_fits : (n : Nest) (b : Begun) (bs : List Begun) → n.begun ≡ b ∷ bs → IsFit (2 ^ 24) n → FrameFits b.frame
innermost_fits n b bs e fit =
    let shallow : AreShallow (b ∷ bs) = subst AreShallow e fit.shallow in
    let apart : AreApart (b ∷ bs) = subst AreApart e fit.apart in
    let light : load (b ∷ bs) + place_load n.place ≤ 8 * 2 ^ 24 = subst (λ l. load l + place_load n.place ≤ 8 * 2 ^ 24) e fit.light in
    record { shallow = omega (arith, shallow.0); light = omega (arith, light); apart = apart.0 }

part_fits : (b : Begun) (bs : List Begun) (place : Place) → IsShallow (b ∷ bs) place → load (b ∷ bs) + place_load place ≤ 8 * 2 ^ 24
    → LastFits (last_part place)
part_fits b bs want shallow light = tt
part_fits b bs opened shallow light = tt
part_fits b bs (after start t) shallow light = record { shallow = omega arith; light = omega arith }
part_fits b bs (value start v) shallow light = tt
part_fits b bs (colon start v) shallow light = tt
part_fits b bs segment shallow light = tt
part_fits b bs (sized last) shallow light = tt
part_fits b bs (stopped t) shallow light = tt

pub last_part_fits : (n : Nest) (b : Begun) (bs : List Begun) → n.begun ≡ b ∷ bs → IsFit (2 ^ 24) n → LastFits (last_part n.place)
last_part_fits n b bs e fit =
    part_fits b bs n.place (subst (λ l. IsShallow l n.place) e fit.place) (subst (λ l. load l + place_load n.place ≤ 8 * 2 ^ 24) e fit.light)
