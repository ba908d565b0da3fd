-- What a run must know of a type (C11 6.2.5).
use Rattle.std.specs.Prelude.{◌≡◌, ℤ, Bool, true, false}
use Rattle.c_arithmetic.specs.declared.types.IntType.{IntType}
use Rattle.c_arithmetic.specs.Conversion.{holds}

pub data Kind : Type 0 where
  Void : Kind
  Number : (t : IntType) → Kind
  Pointer : Kind
  -- a pointer to a function
  FnPointer : Kind
  -- sigset_t
  SetKind : Kind
  -- struct sigaction
  ActionKind : Kind
  ArrayKind : Kind
  -- any other structure, and what belongs to the system
  PartsKind : Kind

-- the integer is a value of the type (6.2.6.2)
abbrev pub InRange : IntType → ℤ → Type 0
InRange t i = holds t i ≡ true

-- the value of an array is a pointer to its first element (6.3.2.1p3)
abbrev pub is_address : Kind → Bool
is_address Pointer = true
is_address FnPointer = true
is_address ArrayKind = true
is_address _ = false

-- a scalar: an object of the kind holds one value (6.2.5p21)
abbrev pub is_word : Kind → Bool
is_word (Number t) = true
is_word Pointer = true
is_word FnPointer = true
is_word _ = false

abbrev pub is_array : Kind → Bool
is_array ArrayKind = true
is_array _ = false

-- the part of an object that a place stands for: only a struct sigaction has parts that are told apart
pub data Part : Type 0 where
  Whole HandlerPart MaskPart FlagsPart : Part

-- what stands after a `.` or `->`: sa_handler or sa_sigaction, sa_mask, sa_flags, or another name
pub data Member : Type 0 where
  HandlerMember MaskMember FlagsMember OtherMember : Member

-- the part of the part that a member is
abbrev pub part_of : Kind → Part → Member → Part
part_of ActionKind Whole HandlerMember = HandlerPart
part_of ActionKind Whole MaskMember = MaskPart
part_of ActionKind Whole FlagsMember = FlagsPart
part_of k part member = part
