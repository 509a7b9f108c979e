-- How the reason that a header cannot be read is coded, for the types of the code that show one.
use Rattle.std.specs.Prelude.{◌≡◌, ℕ, Option, Some, None, refl}
use Rattle.std.specs.Coded.{Coded, code_by, coded_ℕ, coded_option}
use Rattle.file_model.specs.declared.head.Unreadable.{Unreadable}
use Rattle.file_model.specs.declared.head.Unreadable.TheVariants.{NotDets, Version}

abbrev pub version_in : Unreadable → Option ℕ
version_in NotDets = None
version_in (Version number) = Some number

abbrev pub unreadable_by : Option ℕ → Unreadable
unreadable_by None = NotDets
unreadable_by (Some number) = Version number

pub unreadable_by-version_in : (why : Unreadable) → unreadable_by (version_in why) ≡ why
unreadable_by-version_in NotDets = refl
unreadable_by-version_in (Version number) = refl

abbrev pub coded_unreadable : Coded Unreadable
coded_unreadable = code_by (Option ℕ) (coded_option coded_ℕ) version_in unreadable_by unreadable_by-version_in
