mod FarmLaws
mod FileLaws
mod ShelfLaws
