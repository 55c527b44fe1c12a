mod Asked
mod Compared
mod ComparedSame
mod ComparedStatus
mod Does
mod Summed
