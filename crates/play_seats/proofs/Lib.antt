mod EachSeat
