mod SealedRecords
mod Puts
