-- What C lends by an address: the right to read the object there for a lifetime, and a share of what says that it goes on.
use base.Fml.{Lft, Share, Fml, fsep, flft}
use base.Stored.{Coded}
use base.SetCodes.{coded_share as share_code}
use denote.RawPtr.{Ptr}
use denote.Struct.Lending.{lent_at}
use Rattle.std.specs.Coded.{coded_list, coded_ℕ}
use Rattle.c_objects.specs.contracts.object.Object.{the_row}

-- What a `&` to this object holds for the lifetime, where the object lies at the address, and this share of the lifetime: while
-- the share exists, the lifetime goes on.
abbrev pub lends : Ptr → Lft → Share → the_row.Denot → Fml
lends at life share object = fsep (flft life share) (lent_at the_row at object life)

-- the code of a lifetime, for a ghost field: no two have the same code
abbrev pub life_coded : Coded Lft
life_coded = coded_list coded_ℕ

-- the same of a share
abbrev pub share_coded : Coded Share
share_coded = share_code

-- the same of a lent object
abbrev pub lent_coded : Coded the_row.Denot
lent_coded = the_row.coded
